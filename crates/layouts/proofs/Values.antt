-- What is told of a value. Assumes nothing.
use mathlib.Core.Path.{◌≡◌}
use mathlib.Core.Bool.{Bool, true, false, not, ◌&&◌, false≢true}
use Prim.Native.Nat.{ℕ, ◌+◌, ◌*◌, ◌^◌, ◌≤◌, ◌<◌}
use native.Mathlib.Nat.{le_trans, mul-le-mul_left, mul-le-mul_right}
use native.Mathlib.Omega.{arith}
use mir.Syntax.{w64}
use mir.Val.{Fits}
use lib.Dec.{leb, ltb}
use borrow.Author.Tests.{leb-true}
use Rattle.values.specs.declared.Value.{Value}
use Rattle.values.specs.declared.Value.TheVariants.{Default, Whole, Real, Text}
use Rattle.layouts.specs.Machine.{above, within, size}

and_right : (a b : Bool) → (a && b) ≡ true → b ≡ true
and_right true b e = e
and_right false b e = absurd (false≢true e)

pub above-minus : (v : Value) (neg : Bool) (n : ℕ) → v ≡ Whole neg n → neg ≡ true → false ≡ above v
above-minus v neg n p q = rw (p, q)

pub above_whole : (v : Value) (neg : Bool) (n : ℕ) → v ≡ Whole neg n → neg ≡ false → ltb 0 n ≡ above v
above_whole v neg n p q = rw (p, q)

product : (a b : ℕ) → a < 2 ^ 32 → b < 2 ^ 16 → (a + 1) * (b + 1) ≤ 2 ^ 48
product a b h k =
    let x : b + 1 ≤ 2 ^ 16 = omega arith in
    let y : a + 1 ≤ 2 ^ 32 = omega arith in
    le_trans (mul-le-mul_left (a + 1) x) (mul-le-mul_right (2 ^ 16) y)

pub c-fits : (a b : ℕ) → a < 2 ^ 32 → b < 2 ^ 16 → Fits w64 ((a + 1) * (b + 1))
c-fits a b h k = let p = product a b h k in record { fits = omega arith }

pub three-fits : (a b : ℕ) → a < 2 ^ 32 → b < 2 ^ 16 → Fits w64 (3 * ((a + 1) * (b + 1)))
three-fits a b h k = let p = product a b h k in record { fits = omega arith }

pub ruleset products = (c-fits, three-fits)

pub within-size : (given : Bool) (low high : ℕ) (v : Value) → within given low high v ≡ true → size v ≤ high
within-size given low high Default e = omega arith
within-size given low high (Whole neg n) e = leb-true n high (and_right (leb low n) (leb n high) (and_right (not neg) (leb low n && leb n high) e))
within-size given low high (Real neg m eneg x double) e = omega arith
within-size given low high (Text start count) e = omega arith
