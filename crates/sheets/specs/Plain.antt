-- The numbers of a sheet, read strictly: plain decimals, with no plus, no zero in front and no minus nought; and the status.
use Rattle.std.specs.Prelude.{Bool, true, false, cond, ◌&&◌, List, [], ◌∷◌, ℕ, length, get_or, drop, ltb, leb, eqb}
use Rattle.columns.specs.declared.Signed.{Signed}
use Rattle.columns.specs.Columns.{same_bytes}
use Rattle.columns.specs.Decimal.{dec}
use Rattle.columns.specs.Format.{field_columns, most_integer}
use Rattle.columns.specs.Letters.{minus_sign}
use Rattle.values.specs.Number.{is_digit, value}

abbrev pub sized : Bool → ℕ → Signed
sized neg size = record { neg = neg; size = size }

-- the number that digits spell
abbrev pub plain_of : List ℕ → ℕ
plain_of t = value 0 t

-- a plain number: the decimal spelling of a number up to the largest
unfoldable pub is_plain : List ℕ → Bool
is_plain t = same_bytes t (dec (plain_of t)) && leb (plain_of t) most_integer

-- a minus stands in front
abbrev pub is_minus : List ℕ → Bool
is_minus t = eqb (get_or t 0 0) minus_sign

-- a plain number with a minus in front or without; nought has none
unfoldable pub is_signed : List ℕ → Bool
is_signed t = cond (is_minus t) (is_plain (drop 1 t) && ltb 0 (plain_of (drop 1 t))) (is_plain t)

unfoldable pub signed_number : List ℕ → Signed
signed_number t = cond (is_minus t) (sized true (plain_of (drop 1 t))) (sized false (plain_of t))

-- digits alone
unfoldable pub all_digits : List ℕ → Bool
all_digits [] = true
all_digits (b ∷ bs) = is_digit b && all_digits bs

-- a status: eight digits
unfoldable pub is_status : List ℕ → Bool
is_status t = eqb (length t) field_columns && all_digits t

unfoldable pub status_number : List ℕ → Signed
status_number t = sized false (plain_of t)
