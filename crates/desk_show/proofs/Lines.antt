-- The line of a refusal is its pieces, one after another.
use mathlib.Core.Path.{ap}
use mathlib.Core.List.{List, [], ◌∷◌, ◌++◌, append_assoc}
use Prim.Native.Nat.{ℕ}
use Rattle.columns.specs.Decimal.{dec}
use Rattle.columns.specs.Laid.{Wrote}
use Rattle.columns.proofs.Writes.{then, wrote_same}
use Rattle.desk_show.specs.Refusal.{refusal_line}

pub line-of : {o o₁ o₂ o₃ o₄ : List ℕ} {r₁ r₂ r₃ r₄ : ℕ} (n place : ℕ) → Wrote o 0 (88 ∷ []) o₁ r₁ → Wrote o₁ r₁ (9 ∷ []) o₂ r₂ → Wrote o₂ r₂ (dec n ++ (9 ∷ [])) o₃ r₃ → Wrote o₃ r₃ (dec place ++ (10 ∷ [])) o₄ r₄ → Wrote o 0 (refusal_line n place) o₄ r₄
unfolding refusal_line
line-of n place p q s t = wrote_same (then p (then q (then s t))) (ap (λ (x : List ℕ). 88 ∷ (9 ∷ x)) (append_assoc (dec n) (9 ∷ []) (dec place ++ (10 ∷ []))))

pub ruleset lines = (then, line-of)
