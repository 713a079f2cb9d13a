-- Spellings, part by part. Assumes nothing.
use mathlib.Core.Path.{◌≡◌, refl, sym, ap}
use mathlib.Core.Bool.{Bool, true, false}
use mathlib.Core.List.{List, [], ◌∷◌, ◌++◌, append-nil}
use Prim.Native.Nat.{ℕ}
use native.Mathlib.Omega.{arith}
use lib.ListN.{length, take, drop, length-take, length-drop}
use borrow.Author.Tests.{lt-ltb}
use Rattle.columns.specs.Decimal.{dec, minus}
use Rattle.columns.specs.Laid.{Wrote}
use Rattle.columns.proofs.Writes.{then, wrote_none, wrote_length}
use Rattle.values.specs.declared.Value.{Value}
use Rattle.values.specs.declared.Value.TheVariants.{Default, Whole, Real, Text}
use Rattle.values.specs.Value.{whole, real, item_of, letter, ten_to, exponent, head, spelled}
use Rattle.values.specs.Writing.{front, chars, Inside}

pub sign_some : {o o' : List ℕ} {at r : ℕ} (neg : Bool) → neg ≡ true → Wrote o at (45 ∷ []) o' r → Wrote o at (minus neg) o' r
sign_some neg e x = rw e x

pub sign_none : {o : List ℕ} {at : ℕ} (neg : Bool) → neg ≡ false → Wrote o at (minus neg) o at
sign_none neg e = rw e wrote_none

pub letter-D : (double : Bool) → double ≡ true → 68 ≡ letter double
letter-D double e = rw e

pub letter_E : (double : Bool) → double ≡ false → 69 ≡ letter double
letter_E double e = rw e

pub power-of : {o o' o'' o''' : List ℕ} {at a b r n x : ℕ} (eneg : Bool) (e : ℕ) (double : Bool) → n ≡ e → x ≡ letter double
    → Wrote o at (x ∷ []) o' a → Wrote o' a (minus eneg) o'' b → Wrote o'' b (dec n) o''' r → Wrote o at (ten_to eneg e double) o''' r
power-of eneg e double en ex x y z = rw (← en, ← ex) (then x (then y z))

module _ {o o' : List ℕ} {at r : ℕ} (eneg : Bool) (e : ℕ) (double : Bool) where
  pub exponent_double : double ≡ true → Wrote o at (ten_to eneg e double) o' r → Wrote o at (exponent eneg e double) o' r
  exponent_double d x = simp d (simp d at x)

  pub exponent_long : double ≡ false → (e ≡ 0 → ⊥) → Wrote o at (ten_to eneg e double) o' r → Wrote o at (exponent eneg e double) o' r
  exponent_long d h x = simp (d, lt-ltb 0 e (omega arith)) (simp d at x)

pub exponent-none : {o : List ℕ} {at : ℕ} (eneg : Bool) (e : ℕ) (double : Bool) → double ≡ false → e ≡ 0 → Wrote o at (exponent eneg e double) o at
exponent-none eneg e double d h = simp (d, h) wrote_none

pub whole_of : {o o' o'' : List ℕ} {at a r n : ℕ} (neg : Bool) (size : ℕ) → n ≡ size → Wrote o at (minus neg) o' a → Wrote o' a (dec n) o'' r → Wrote o at (spelled (whole neg size)) o'' r
unfolding spelled
whole_of neg size e x y = rw (← e) (then x y)

pub real_of_lem : {o o' o'' o''' o'''' : List ℕ} {at a b c r : ℕ} (neg : Bool) (m : ℕ) (eneg : Bool) (e : ℕ) (double : Bool)
    → Wrote o at (minus neg) o' a → Wrote o' a (dec m) o'' b → Wrote o'' b (46 ∷ []) o''' c → Wrote o''' c (exponent eneg e double) o'''' r
    → Wrote o at (spelled (real neg m eneg e double)) o'''' r
unfolding spelled
real_of_lem neg m eneg e double x y z w = then x (then y (then z w))

pub head_of : {o o' o'' : List ℕ} {at a r : ℕ} (count : ℕ) → Wrote o at (dec count) o' a → Wrote o' a (72 ∷ []) o'' r → Wrote o at (head count) o'' r
head_of count x y = then x y

module _ {o o' : List ℕ} {at r : ℕ} (v : Value) where
  pub front_whole : {neg : Bool} {size : ℕ} → v ≡ Whole neg size → Wrote o at (spelled (whole neg size)) o' r → Wrote o at (front v) o' r
  front_whole e x = rw e x

  pub front_real : {neg : Bool} {m : ℕ} {eneg : Bool} {e : ℕ} {double : Bool} → v ≡ Real neg m eneg e double
      → Wrote o at (spelled (real neg m eneg e double)) o' r → Wrote o at (front v) o' r
  front_real e x = rw e x

  pub front-text : {start count : ℕ} → v ≡ Text start count → Wrote o at (head count) o' r → Wrote o at (front v) o' r
  front-text e x = rw e x

pub front-none : {o : List ℕ} {at : ℕ} (v : Value) → v ≡ Default → Wrote o at (front v) o at
unfolding spelled
front-none v e = rw e wrote_none

pub ruleset spells = (wrote_length, sign_some, sign_none, letter-D, letter_E, power-of, exponent_double, exponent_long, exponent-none, whole_of, real_of_lem, head_of, front_whole, front_real, front-text, front-none)

-- a value's spelling is its front and its characters; a string's stand within t
pub front-chars : (t : List ℕ) (v : Value) → Inside (length t) v → spelled (item_of t v) ≡ front v ++ chars t v
unfolding spelled
front-chars t Default i = refl
front-chars t (Whole neg size) i = sym (append-nil _)
front-chars t (Real neg m eneg e double) i = sym (append-nil _)
front-chars t (Text start count) i =
    let n : length (take count (drop start t)) ≡ count = simp (length-take, length-drop) (omega arith) in
    ap (λ (k : ℕ). head k ++ take count (drop start t)) n
