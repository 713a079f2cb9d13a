-- The Global section: its opening, and the kinds and ranges of its fields.
use Rattle.std.specs.Prelude.{Bool, true, false, cond, not, ◌&&◌, ◌||◌, List, [], ◌∷◌, ◌++◌, ℕ, ◌+◌, get_or, leb}
use Rattle.std.specs.Prelude.{eqb, Option, Some, None}
use Rattle.values.specs.declared.Value.{Value}
use Rattle.values.specs.declared.Value.TheVariants.{Default, Whole, Real, Text}
use Rattle.values.specs.Number.{joins}
use Rattle.columns.specs.Quoted.{codes}
use Rattle.columns.specs.Letters.{comma, semicolon, digit1, letter_h}
use Rattle.records.specs.Flow.{delimiter}
use Rattle.records.specs.declared.Opening.{Opening}
use Rattle.records.specs.declared.GlobalKind.{GlobalKind}
use Rattle.records.specs.declared.GlobalKind.TheVariants.{String, Real as RealKind, Integer}

-- ---- the opening

-- a delimiter is no blank (a line's bytes are 32 to 126), digit, + - . D E H
unfoldable pub may_delimit : ℕ → Bool
may_delimit x = leb 33 x && not (joins x)

-- the delimiters, the position behind the opening, and whether the record ends there
abbrev pub opens : ℕ → ℕ → ℕ → Bool → Option Opening
opens c d next last = Some (record { parameter = c; closing = d; next = next; last = last })

-- both may, and they differ
unfoldable pub opened : ℕ → ℕ → ℕ → Bool → Option Opening
opened c d next last = cond (may_delimit c && (may_delimit d && not (eqb c d))) (opens c d next last) None

-- `1H` stands at p
abbrev pub one_h : List ℕ → ℕ → Bool
one_h t p = eqb (get_or t p 0) digit1 && eqb (get_or t (p + 1) 0) letter_h

-- from p on: c or ; (record delimiter semicolon), or 1H, d, and c or d
unfoldable pub record_delimiter : ℕ → List ℕ → ℕ → Option Opening
record_delimiter c t p =
    let x = get_or t p 0 in
    let d = get_or t (p + 2) 0 in
    let y = get_or t (p + 3) 0 in
    cond (eqb x c) (opened c semicolon (p + 1) false)
    (cond (eqb x semicolon) (opened c semicolon (p + 1) true)
    (cond (one_h t p) (cond (eqb y c) (opened c d (p + 4) false) (cond (eqb y d) (opened c d (p + 4) true) None)) None))

-- `,` (delimiter comma) or `1H`, c, c; then the record delimiter
unfoldable pub opening_of : List ℕ → Option Opening
opening_of t =
    let c = get_or t 2 0 in
    cond (eqb (get_or t 0 0) comma) (record_delimiter comma t 1)
    (cond (one_h t 0 && eqb (get_or t 3 0) c) (record_delimiter c t 4) None)

-- the opening as it is written: `1H,,1H;,`, or `1H,,1H;;` if all else is default
unfoldable pub canonical_opening : Bool → List ℕ
canonical_opening last = codes "1H,,1H;" ++ (delimiter last ∷ [])

-- ---- kinds and ranges

-- the fields that follow the delimiters
abbrev pub first_field : ℕ
first_field = 3

-- more than 24 fields are refused
abbrev pub last_field : ℕ
last_field = 24

-- from low to high
abbrev pub within : ℕ → ℕ → ℕ → Bool
within low high n = leb low n && leb n high

-- strings 3-6, 12, 15, 18, 21, 22; reals 13, 17, 19, 20; the rest integers
unfoldable pub kind_of : ℕ → GlobalKind
kind_of n =
    cond (within 3 6 n || (eqb n 12 || (eqb n 15 || (eqb n 18 || (eqb n 21 || eqb n 22))))) String
    (cond (eqb n 13 || (eqb n 17 || (eqb n 19 || eqb n 20))) RealKind Integer)

-- 1 to high, without a sign
abbrev pub up_to : ℕ → Bool → ℕ → Bool
up_to high neg size = not neg && within 1 high size

-- field 14 is 1..11, field 23 is 1..6
unfoldable pub in_range : ℕ → Bool → ℕ → Bool
in_range n neg size = cond (eqb n 14) (up_to 11 neg size) (cond (eqb n 23) (up_to 6 neg size) true)

-- a default fits every kind; a real's field takes an integer too; where an integer is asked for, it keeps to its range
abbrev pub is_kind : GlobalKind → ℕ → Value → Bool
is_kind String n Default = true
is_kind String n (Whole neg size) = false
is_kind String n (Real neg m eneg e double) = false
is_kind String n (Text start count) = true
is_kind RealKind n Default = true
is_kind RealKind n (Whole neg size) = true
is_kind RealKind n (Real neg m eneg e double) = true
is_kind RealKind n (Text start count) = false
is_kind Integer n Default = true
is_kind Integer n (Whole neg size) = in_range n neg size
is_kind Integer n (Real neg m eneg e double) = false
is_kind Integer n (Text start count) = false

-- field n may hold this value; there is no field past the last
unfoldable pub global_fits : ℕ → Value → Bool
global_fits n v = leb n last_field && is_kind (kind_of n) n v
