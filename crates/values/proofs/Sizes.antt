-- How long a spelling is, and of what bytes. Assumes nothing.
use mathlib.Core.Path.{◌≡◌, refl}
use mathlib.Core.Bool.{Bool, true, false, cond, ◌||◌}
use mathlib.Core.List.{[], ◌∷◌, ◌++◌}
use Prim.Native.Nat.{ℕ, ◌+◌, ◌^◌, ◌≤◌, ◌<◌}
use native.Mathlib.Omega.{arith}
use lib.ListN.{length, length-append}
use lib.Dec.{ltb}
use Rattle.columns.specs.Columns.{printable}
use Rattle.columns.specs.Decimal.{dec, minus}
use Rattle.columns.proofs.Decimals.{dec_some, length_dec_le, length-minus, print_dec, print_minus}
use Rattle.columns.proofs.Looks.{print_both}
use Rattle.values.specs.declared.Number.{Number}
use Rattle.values.specs.Value.{Item, default, whole, real, text, ten_to, exponent, head, spelled, Normal, nought, times, over, Fine, fine_default, fine_whole, fine_real, fine_text, Printed}
use Rattle.values.proofs.Canon.{Numeral, is_whole, is_real}

-- m has at most 17 digits, e at most 3
pub sizes : {neg : Bool} {m : ℕ} {eneg : Bool} {e : ℕ} → Normal neg m eneg e → (m < 10 ^ 17) × (e ≤ 400)
sizes nought = (omega arith, omega arith)
sizes (times neg m e n h k) = (h, k)
sizes (over neg m e n h o k) = (h, k)

-- ---- lengths

pub length_real : (neg : Bool) (m : ℕ) (eneg : Bool) (e : ℕ) (double : Bool) → length (spelled (real neg m eneg e double)) ≡ length (minus neg) + (length (dec m) + (1 + length (exponent eneg e double)))
unfolding spelled
length_real neg m eneg e double = simp length-append (omega arith)

pub length_whole : (neg : Bool) (size : ℕ) → length (spelled (whole neg size)) ≡ length (minus neg) + length (dec size)
unfolding spelled
length_whole neg size = length-append (minus neg) (dec size)

length-exponent : (eneg : Bool) (e : ℕ) (double : Bool) → e ≤ 400 → length (exponent eneg e double) ≤ 5
length-exponent eneg e double h = pick (double || ltb 0 e)
  where
    pick : (b : Bool) → length (cond b (ten_to eneg e double) []) ≤ 5
    pick true = omega (arith, length-append (minus eneg) (dec e), length-minus eneg, length_dec_le 2 e (omega arith))
    pick false = omega arith

-- a number's spelling is not empty
pub number_some : {v : Item} {k : Number} → Numeral v k → length (spelled v) ≡ 0 → ⊥
number_some (is_whole {neg} {size}) h = omega (arith, length_whole neg size, dec_some size)
number_some (is_real {neg} {m} {eneg} {e} {double}) h = omega (arith, length_real neg m eneg e double, dec_some m)

-- a number takes 24 characters at most
pub number_short : {v : Item} {k : Number} → Numeral v k → Fine v → length (spelled v) ≤ 24
number_short is_whole (fine_whole neg size h z) = omega (arith, length_whole neg size, length-minus neg, length_dec_le 9 size (omega arith))
number_short is_real (fine_real {neg} {m} {eneg} {e} ok double) =
    omega (arith, length_real neg m eneg e double, length-minus neg, length_dec_le 16 m (sizes ok).0, length-exponent eneg e double (sizes ok).1)

-- a string's head takes 4 at most
pub head_short : (n : ℕ) → n ≤ 999 → length (head n) ≤ 4
head_short n h = omega (arith, length-append (dec n) (72 ∷ []), length_dec_le 2 n (omega arith))

-- a spelling takes 1003 at most: a string's head and its 999 characters
pub spelled_short : {v : Item} → Fine v → length (spelled v) ≤ 1003
unfolding spelled
spelled_short fine_default = omega arith
spelled_short (fine_whole neg size a b) = omega (arith, number_short is_whole (fine_whole neg size a b))
spelled_short (fine_real k double) = omega (arith, number_short is_real (fine_real k double))
spelled_short (fine_text bs a b) = omega (arith, length-append (head (length bs)) bs, head_short (length bs) b)

-- ---- bytes

print_exponent : (eneg : Bool) (e : ℕ) (double : Bool) → printable (exponent eneg e double) ≡ true
unfolding printable
print_exponent eneg e double = pick (double || ltb 0 e) double
  where
    pick : (b double : Bool) → printable (cond b (ten_to eneg e double) []) ≡ true
    pick true true = print_both (minus eneg) (dec e) (print_minus eneg) (print_dec e)
    pick true false = print_both (minus eneg) (dec e) (print_minus eneg) (print_dec e)
    pick false double = refl

pub print_head : (n : ℕ) → printable (head n) ≡ true
unfolding printable
print_head n = print_both (dec n) (72 ∷ []) (print_dec n) refl

-- a spelling is of bytes that a line may hold, if a string's characters are
pub print_spelled : (v : Item) → Printed v → printable (spelled v) ≡ true
unfolding printable spelled
print_spelled default p = refl
print_spelled (whole neg size) p = print_both (minus neg) (dec size) (print_minus neg) (print_dec size)
print_spelled (real neg m eneg e double) p =
    print_both (minus neg) (dec m ++ (46 ∷ exponent eneg e double)) (print_minus neg) (print_both (dec m) (46 ∷ exponent eneg e double) (print_dec m) (print_exponent eneg e double))
print_spelled (text bs) p = print_both (head (length bs)) bs (print_head (length bs)) p
