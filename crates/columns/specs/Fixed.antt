-- A fixed number field: right-justified with leading blanks only (a leading 0 is a digit); all blank is 0. With a sign where the paper
-- allows one.
use Rattle.std.specs.Prelude.{◌≡◌, ℕ, ◌+◌, ◌-◌, ◌*◌, Bool, true, false, cond, ◌&&◌, List, [], ◌∷◌, leb, eqb}
use Rattle.std.specs.Prelude.{Option, Some, None}
use Rattle.columns.specs.declared.Signed.{Signed}
use Rattle.columns.specs.Letters.{space, plus_sign, minus_sign, digit0, digit9}

-- the columns from here on are digits; n is the number so far
unfoldable pub digits_of : ℕ → List ℕ → Option ℕ
digits_of n [] = Some n
digits_of n (b ∷ bs) = cond (leb digit0 b && leb b digit9) (digits_of (n * 10 + (b - digit0)) bs) None

-- blanks, then digits
unfoldable pub field_of : List ℕ → Option ℕ
field_of [] = Some 0
field_of (b ∷ bs) = cond (eqb b space) (field_of bs) (digits_of 0 (b ∷ bs))

-- the field holds n
unfoldable pub is_number : Option ℕ → ℕ → Bool
is_number (Some m) n = eqb m n
is_number None n = false

-- a sign and a size; nought has no sign
abbrev pub signed : Bool → ℕ → Signed
signed neg n = record { neg = cond (eqb n 0) false neg; size = n }

-- a signed number is normal if it is not nought with a sign
abbrev pub NormalSign : Signed → Type 0
NormalSign x = x.size ≡ 0 → x.neg ≡ false

-- a number with the sign before it
abbrev pub with_sign : Bool → Option ℕ → Option Signed
with_sign neg (Some n) = Some (signed neg n)
with_sign neg None = None

-- a sign stands right before a digit
abbrev pub behind_sign : Bool → List ℕ → Option Signed
behind_sign neg [] = None
behind_sign neg (b ∷ bs) = with_sign neg (digits_of 0 (b ∷ bs))

-- the same, with '-' or '+' right before the digits, or none
unfoldable pub signed_of : List ℕ → Option Signed
signed_of [] = Some (signed false 0)
signed_of (b ∷ bs) =
    cond (eqb b space) (signed_of bs)
    (cond (eqb b minus_sign) (behind_sign true bs)
    (cond (eqb b plus_sign) (behind_sign false bs)
    (with_sign false (digits_of 0 (b ∷ bs)))))
