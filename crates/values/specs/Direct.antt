-- The code's form: how the code reads a spelling back: straight from the text, by what stands behind its sign and its digits. Positions
-- count from the start of the text l.
use Rattle.std.specs.Prelude.{Bool, true, false, cond, not, ◌&&◌, ◌||◌, List, [], ◌∷◌, ℕ, ◌+◌, ◌-◌, ◌*◌}
use Rattle.std.specs.Prelude.{◌%◌, ◌^◌, length, get_or, Option, Some, None}
use Rattle.std.specs.Prelude.{drop, ltb, leb, eqb}
use Rattle.columns.specs.Columns.{printable}
use Rattle.columns.specs.Decimal.{minus}
use Rattle.columns.specs.Format.{most_integer}
use Rattle.columns.specs.Letters.{minus_sign, point, digit0, letter_d, letter_e, letter_h}
use Rattle.values.specs.declared.Decimal.{Decimal}
use Rattle.values.specs.declared.Value.{Value}
use Rattle.values.specs.declared.Value.TheVariants.{Default, Whole, Real, Text}
use Rattle.values.specs.Number.{is_digit}

-- v, which ends at k, and the digits behind it, seventeen in all at most
abbrev pub longer : List ℕ → ℕ → ℕ → Decimal
longer [] v k = record { value = v; end = k }
longer (c ∷ cs) v k = cond (is_digit c && ltb v (10 ^ 16)) (longer cs (v * 10 + (c - digit0)) (k + 1)) (record { value = v; end = k })

-- the number that the text at `at` begins with, with no 0 before it; it ends where it starts if there is none
abbrev pub decimal : List ℕ → ℕ → Decimal
decimal [] at = record { value = 0; end = at }
decimal (c ∷ cs) at =
    cond (is_digit c) (cond (eqb c digit0) (record { value = 0; end = at + 1 }) (longer cs (c - digit0) (at + 1)))
    (record { value = 0; end = at })

-- ---- the limits

abbrev pub is_whole : Bool → ℕ → Bool
is_whole neg size = leb size most_integer && cond neg (ltb 0 size) true

abbrev pub is_nought : Bool → ℕ → Bool → ℕ → Bool
is_nought neg m eneg e = eqb m 0 && (not neg && (not eneg && eqb e 0))

abbrev pub is_normal : Bool → ℕ → Bool → ℕ → Bool
is_normal neg m eneg e = leb e 400 && cond (eqb (m % 10) 0) (is_nought neg m eneg e) (cond eneg (ltb 0 e) true)

-- ---- the values

unfoldable pub as_whole : Bool → ℕ → Option Value
as_whole neg size = cond (is_whole neg size) (Some (Whole neg size)) None

unfoldable pub as_real : Bool → ℕ → Bool → ℕ → Bool → Option Value
as_real neg m eneg e double = cond (is_normal neg m eneg e) (Some (Real neg m eneg e double)) None

-- an exponent, which starts at k and is x
abbrev pub by_exponent : ℕ → ℕ → Decimal → Bool → ℕ → Bool → Bool → Option Value
by_exponent n k x neg m eneg double =
    cond (eqb x.end k) None (cond (eqb x.end n && (double || ltb 0 x.value)) (as_real neg m eneg x.value double) None)

-- behind the letter of an exponent
unfoldable pub behind_letter : List ℕ → Bool → ℕ → Bool → ℕ → Option Value
behind_letter l neg m double i =
    let eneg = eqb (get_or l i 0) minus_sign in
    let k = i + length (minus eneg) in
    by_exponent (length l) k (decimal (drop k l) k) neg m eneg double

-- behind a real's point
unfoldable pub behind_point : List ℕ → Bool → ℕ → ℕ → Option Value
behind_point l neg m i =
    cond (eqb i (length l)) (as_real neg m false 0 false)
    (cond (eqb (get_or l i 0) letter_e || eqb (get_or l i 0) letter_d) (behind_letter l neg m (eqb (get_or l i 0) letter_d) (i + 1)) None)

-- behind a string's count
unfoldable pub behind_count : List ℕ → Bool → ℕ → ℕ → Option Value
behind_count l neg count i =
    cond (not neg && (leb 1 count && (leb count 999 && (eqb (i + count) (length l) && printable (drop i l))))) (Some (Text i count)) None

-- behind the first digits, which end at i
unfoldable pub behind_digits : List ℕ → Bool → ℕ → ℕ → Option Value
behind_digits l neg v i =
    cond (eqb i (length l)) (as_whole neg v)
    (cond (eqb (get_or l i 0) point) (behind_point l neg v (i + 1))
    (cond (eqb (get_or l i 0) letter_h) (behind_count l neg v (i + 1)) None))

-- a sign or none, and x, which starts at a
abbrev pub by_digits : List ℕ → Bool → ℕ → Decimal → Option Value
by_digits l neg a x = cond (eqb x.end a) None (behind_digits l neg x.value x.end)

-- the value whose spelling is all of the text
unfoldable pub direct_of : List ℕ → Option Value
direct_of l =
    let neg = eqb (get_or l 0 0) minus_sign in
    let a = length (minus neg) in
    cond (eqb (length l) 0) (Some Default) (by_digits l neg a (decimal (drop a l) a))
