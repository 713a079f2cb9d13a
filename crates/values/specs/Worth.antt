-- No digit is lost: what is read of a number is worth what its spelling says. The parts of a spelling have names, in the order in which
-- they stand.
use Rattle.std.specs.Prelude.{◌≡◌, Bool, false, cond, List, ◌++◌, ℕ, ◌+◌, ◌*◌, ◌^◌, length, get_or, drop, eqb}
use Rattle.columns.specs.Letters.{minus_sign}
use Rattle.values.specs.declared.Number.{Number}
use Rattle.values.specs.declared.Number.TheVariants.{Whole, Real, Beyond, Bad}
use Rattle.values.specs.declared.Power.{Power}
use Rattle.values.specs.declared.Power.TheVariants.{None, Wrong, Of}
use Rattle.values.specs.Number.{digits, value, sign_len, point_len, power_at, number_of}

-- ---- what a spelling says

-- a minus stands first
abbrev pub minus_in : List ℕ → Bool
minus_in t = eqb (get_or t 0 0) minus_sign

-- the digits before the point, and those behind it
abbrev pub before : List ℕ → List ℕ
before t = digits (drop (sign_len (get_or t 0 0)) t)

-- where the digits before the point end
abbrev pub point_place : List ℕ → ℕ
point_place t = sign_len (get_or t 0 0) + length (before t)

abbrev pub behind : List ℕ → List ℕ
behind t = digits (drop (point_place t + point_len (get_or t (point_place t) 0)) t)

-- all digits as one number, the point left out
abbrev pub digits_in : List ℕ → ℕ
digits_in t = value 0 (before t ++ behind t)

-- the exponent, if its letter stands behind the digits
abbrev pub exponent_in : List ℕ → Power
exponent_in t = power_at t (sign_len (get_or t 0 0) + (length (before t) + length (behind t)) + point_len (get_or t (point_place t) 0))

-- ten to how much it multiplies by, and divides by
abbrev pub up : Power → ℕ
up None = 0
up (Wrong at) = 0
up (Of u d double end) = u

abbrev pub down : Power → ℕ
down None = 0
down (Wrong at) = 0
down (Of u d double end) = d

-- D
abbrev pub is_double : Power → Bool
is_double None = false
is_double (Wrong at) = false
is_double (Of u d double end) = double

-- ---- what is read is worth that

-- v times ten to u over ten to d is m times ten to e, or over it
abbrev pub Worth : ℕ → ℕ → ℕ → ℕ → Bool → ℕ → Type 0
Worth v u d m eneg e = v * 10 ^ u * 10 ^ (cond eneg e 0) ≡ m * 10 ^ (cond eneg 0 e) * 10 ^ d

-- a number is what a spelling says that has this sign, the digits v, so many of them behind the point, and the exponent x: an integer
-- is its digits; a real is worth them, a tenth for each behind the point, times its exponent; the sign is kept but for nought, the
-- letter always
abbrev pub Says : Bool → ℕ → ℕ → Power → Number → Type 0
Says minus v frac x (Whole neg size) = (size ≡ v) × ((size ≡ 0 → ⊥) → neg ≡ minus)
Says minus v frac x (Real neg m eneg e double) =
    Worth v (up x) (frac + down x) m eneg e × (((m ≡ 0 → ⊥) → neg ≡ minus) × (double ≡ is_double x))
Says minus v frac x Beyond = Unit {0}
Says minus v frac x Bad = Unit {0}

-- of every text
abbrev pub NoDigitLost : Type 0
NoDigitLost = (t : List ℕ) → Says (minus_in t) (digits_in t) (length (behind t)) (exponent_in t) (number_of t).number
