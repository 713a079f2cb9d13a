-- Values and their marks, put together and taken apart.
use mathlib.Core.Path.{◌≡◌, refl, ap, ap₂}
use mathlib.Core.Bool.{Bool, true, false}
use mathlib.Core.List.{List, [], ◌∷◌, map}
use Prim.Native.Nat.{ℕ}
use native.Mathlib.Omega.{arith}
use lib.ListN.{length}
use Rattle.columns.proofs.Tests.{both, both_true}
use Rattle.values.specs.Value.{Item}
use Rattle.model.specs.Model.{marked, value_in, mark_in}
use Rattle.model.specs.Write.{equal, all_equal}

-- the values without their marks
pub marked_values : (bs : List Bool) (vs : List Item) → length bs ≡ length vs → map value_in (marked bs vs) ≡ vs
unfolding marked
marked_values [] [] h = refl
marked_values [] (v ∷ vs) h = absurd (omega arith)
marked_values (b ∷ bs) [] h = absurd (omega arith)
marked_values (b ∷ bs) (v ∷ vs) h = ap (λ (l : List Item). v ∷ l) (marked_values bs vs (omega arith))

-- the marks alone
pub marked-marks : (bs : List Bool) (vs : List Item) → length bs ≡ length vs → map mark_in (marked bs vs) ≡ bs
unfolding marked
marked-marks [] [] h = refl
marked-marks [] (v ∷ vs) h = absurd (omega arith)
marked-marks (b ∷ bs) [] h = absurd (omega arith)
marked-marks (b ∷ bs) (v ∷ vs) h = ap (λ (l : List Bool). b ∷ l) (marked-marks bs vs (omega arith))

-- values with their own marks
pub marked_own : (ws : List (Bool × Item)) → marked (map mark_in ws) (map value_in ws) ≡ ws
unfolding marked
marked_own [] = refl
marked_own (w ∷ ws) = ap (λ (l : List (Bool × Item)). w ∷ l) (marked_own ws)

-- ---- marks that are the same

pub equal_self : (a : Bool) → equal a a ≡ true
equal_self true = refl
equal_self false = refl

pub all_equal_self : (bs : List Bool) → all_equal bs bs ≡ true
all_equal_self [] = refl
all_equal_self (b ∷ bs) = both_true (equal_self b) (all_equal_self bs)

pub equal_is : (a b : Bool) → equal a b ≡ true → a ≡ b
equal_is true true h = refl
equal_is true false h = let z : ◌≡◌ {A = ℕ} 0 1 = cc in absurd (omega arith)
equal_is false true h = let z : ◌≡◌ {A = ℕ} 0 1 = cc in absurd (omega arith)
equal_is false false h = refl

pub all_equal_is : (xs bs : List Bool) → all_equal xs bs ≡ true → xs ≡ bs
all_equal_is [] [] h = refl
all_equal_is [] (b ∷ bs) h = let z : ◌≡◌ {A = ℕ} 0 1 = cc in absurd (omega arith)
all_equal_is (a ∷ xs) [] h = let z : ◌≡◌ {A = ℕ} 0 1 = cc in absurd (omega arith)
all_equal_is (a ∷ xs) (b ∷ bs) h =
    let p = both (equal a b) (all_equal xs bs) h in
    ap₂ (λ (c : Bool) (l : List Bool). c ∷ l) (equal_is a b p.0) (all_equal_is xs bs p.1)
