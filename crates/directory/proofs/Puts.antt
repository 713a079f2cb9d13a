-- The two D lines as they are written, number by number.
use mathlib.Core.Path.{◌≡◌, refl}
use mathlib.Core.List.{List, ◌∷◌, [], append_assoc, append-nil}
use Prim.Native.Nat.{ℕ}
use lib.ListN.{replicate}
use Rattle.columns.specs.declared.Signed.{Signed}
use Rattle.columns.specs.Columns.{joined}
use Rattle.columns.specs.Decimal.{dec, signed_dec, to_right}
use Rattle.columns.specs.Laid.{Wrote}
use Rattle.columns.proofs.Writes.{then, wrote_same}
use Rattle.directory.specs.declared.Fields.{Fields}
use Rattle.directory.specs.Lines.{slots, entry_lines}
use Rattle.directory.specs.Reading.{three, first_line, second_line}

pub wrote_three : {o o₁ o₂ o₃ : List ℕ} {at r₁ r₂ r₃ : ℕ} (x y z : Signed) → Wrote o at (to_right 32 8 (signed_dec x)) o₁ r₁ → Wrote o₁ r₁ (to_right 32 8 (signed_dec y)) o₂ r₂
    → Wrote o₂ r₂ (to_right 32 8 (signed_dec z)) o₃ r₃ → Wrote o at (three x y z) o₃ r₃
unfolding three
wrote_three x y z p q s = then p (then q s)

pub wrote_first : {o o₁ o₂ o₃ o₄ o₅ : List ℕ} {at r₁ r₂ r₃ r₄ r₅ : ℕ} (x : Fields) (from : ℕ) → Wrote o at (to_right 32 8 (signed_dec x.entity)) o₁ r₁
    → Wrote o₁ r₁ (to_right 32 8 (dec from)) o₂ r₂ → Wrote o₂ r₂ (three x.structure x.font x.level) o₃ r₃
    → Wrote o₃ r₃ (three x.view x.matrix x.display) o₄ r₄ → Wrote o₄ r₄ (to_right 48 8 (dec x.status.size)) o₅ r₅ → Wrote o at (first_line x from) o₅ r₅
unfolding joined three first_line slots
wrote_first x from p q s t u = wrote_same (then p (then q (then s (then t u)))) (simp (append_assoc, append-nil))

pub wrote_second : {o o₁ o₂ o₃ o₄ o₅ o₆ : List ℕ} {at r₁ r₂ r₃ r₄ r₅ r₆ : ℕ} (x : Fields) (count : ℕ) (name : List ℕ) → Wrote o at (three x.entity x.weight x.colour) o₁ r₁
    → Wrote o₁ r₁ (to_right 32 8 (dec count)) o₂ r₂ → Wrote o₂ r₂ (to_right 32 8 (signed_dec x.form)) o₃ r₃ → Wrote o₃ r₃ (replicate 16 32) o₄ r₄ → Wrote o₄ r₄ name o₅ r₅
    → Wrote o₅ r₅ (to_right 32 8 (signed_dec x.subscript)) o₆ r₆ → Wrote o at (second_line x count name) o₆ r₆
unfolding joined three second_line slots
wrote_second x count name p q s t u v = wrote_same (then p (then q (then s (then t (then u v))))) (simp (append_assoc, append-nil))

-- they are the columns of the entry's two D lines
pub entry-lines : (x : Fields) (from count : ℕ) (name : List ℕ) → entry_lines x from count name ≡ first_line x from ∷ second_line x count name ∷ []
unfolding entry_lines first_line second_line slots
entry-lines x from count name = refl
