-- The two D lines of an entry: eight-column fields, nine to a line.
use Rattle.std.specs.Prelude.{Bool, true, false, cond, not, ◌&&◌, ◌||◌, List, [], ◌∷◌, map, ℕ, zero, suc, ◌+◌}
use Rattle.std.specs.Prelude.{◌*◌, ◌/◌, ◌%◌}
use Rattle.std.specs.Prelude.{get_or, replicate, take, drop, leb, eqb}
use Rattle.std.specs.Prelude.{Option, Some, None}
use Rattle.columns.specs.declared.Signed.{Signed}
use Rattle.columns.specs.declared.ParameterLine.{ParameterLine}
use Rattle.columns.specs.Columns.{columns, line_at, joined}
use Rattle.columns.specs.Fixed.{field_of, signed_of, with_sign}
use Rattle.columns.specs.Decimal.{dec, signed_dec, padded, zero_filled}
use Rattle.columns.specs.Format.{field_columns}
use Rattle.columns.specs.Letters.{space}
use Rattle.directory.specs.declared.Fields.{Fields}
use Rattle.directory.specs.declared.Spelt.{Spelt}
use Rattle.directory.specs.Fields.{type_at, form_at, structure_at, font_at, level_at, view_at, matrix_at, display_at}
use Rattle.directory.specs.Fields.{status_at, weight_at, colour_at, subscript_at, field_count, nought, in_order, fields_of}

-- ---- the fields of the two lines, said once for reading and writing

-- a number of the entry, its type again, or what is no number of the entry
pub data Slot : Type 0 where
  number : ℕ → Slot
  again : Slot
  pointer : Slot
  lines : Slot
  reserved : Slot
  label : Slot

-- first line: type, parameter pointer, structure, line font, level, view, matrix, label display, status;
-- second: type again, weight, colour, parameter line count, form, two reserved fields, label, subscript
unfoldable pub slots : List Slot
slots =
    number type_at ∷ pointer ∷ number structure_at ∷ number font_at ∷ number level_at
    ∷ number view_at ∷ number matrix_at ∷ number display_at ∷ number status_at
    ∷ again ∷ number weight_at ∷ number colour_at ∷ lines ∷ number form_at
    ∷ reserved ∷ reserved ∷ label ∷ number subscript_at ∷ []

-- nine fields fill the columns 1-72 of a line
abbrev pub slots_a_line : ℕ
slots_a_line = 9

-- the same slot
abbrev pub is_slot : Slot → Slot → Bool
is_slot (number j) (number k) = eqb j k
is_slot (number j) again = false
is_slot (number j) pointer = false
is_slot (number j) lines = false
is_slot (number j) reserved = false
is_slot (number j) label = false
is_slot again x =
    elim x [ number k ↦ false | again ↦ true | pointer ↦ false | lines ↦ false | reserved ↦ false | label ↦ false ]
is_slot pointer x =
    elim x [ number k ↦ false | again ↦ false | pointer ↦ true | lines ↦ false | reserved ↦ false | label ↦ false ]
is_slot lines x =
    elim x [ number k ↦ false | again ↦ false | pointer ↦ false | lines ↦ true | reserved ↦ false | label ↦ false ]
is_slot reserved x =
    elim x [ number k ↦ false | again ↦ false | pointer ↦ false | lines ↦ false | reserved ↦ true | label ↦ false ]
is_slot label x =
    elim x [ number k ↦ false | again ↦ false | pointer ↦ false | lines ↦ false | reserved ↦ false | label ↦ true ]

-- which of them it is, from 0
abbrev pub seek : Slot → List Slot → ℕ
seek x [] = 0
seek x (y ∷ ys) = cond (is_slot x y) 0 (suc (seek x ys))

-- the columns of a slot: the entry's first D line is line k of the file
unfoldable pub slot_in : List ℕ → ℕ → Slot → List ℕ
slot_in f k x =
    let j = seek x slots in
    let at = field_columns * (j % slots_a_line) in
    columns (line_at f (k + j / slots_a_line)) at (at + field_columns)

-- ---- reading

-- status and subscript have no sign
abbrev pub unsigned : ℕ → Bool
unsigned n = eqb n status_at || eqb n subscript_at

-- number n of the entry
unfoldable pub number_in : List ℕ → ℕ → ℕ → Option Signed
number_in f k n = cond (unsigned n) (with_sign false (field_of (slot_in f k (number n)))) (signed_of (slot_in f k (number n)))

-- all of them are numbers, or one is misspelt
pub data Numbers : Type 0 where
  numbers : List Signed → Numbers
  misspelt : Numbers

-- one number more in front
abbrev pub with : Option Signed → Numbers → Numbers
with (Some n) (numbers ns) = numbers (n ∷ ns)
with (Some n) misspelt = misspelt
with None ns = misspelt

-- so many numbers, from number n on
unfoldable pub numbers_from : List ℕ → ℕ → ℕ → ℕ → Numbers
numbers_from f k n zero = numbers []
numbers_from f k n (suc more) = with (number_in f k n) (numbers_from f k (n + 1) more)

-- a field that is at least 1
abbrev pub positive : Option Signed → Bool
positive (Some n) = not n.neg && leb 1 n.size
positive None = false

-- the size of a field
abbrev pub size_of : Option Signed → ℕ
size_of (Some n) = n.size
size_of None = 0

-- the type again is equal, as a number
abbrev pub is_same : Signed → Option Signed → Bool
is_same x (Some n) = eqb x.size n.size && cond x.neg n.neg (not n.neg)
is_same x None = false

-- as the code has it
abbrev pub parameter_line : ℕ → ParameterLine
parameter_line n = record { 0 = n }

-- what two D lines spell
abbrev pub spelt_entry : Fields → ParameterLine → ℕ → Spelt
spelt_entry x from count = record { fields = x; pointer = from; lines = count }

-- parameter pointer and line count are at least 1; the type again is equal
abbrev pub spelt_as : Fields → Option Signed → Option Signed → Option Signed → Option Spelt
spelt_as x type² from count =
    cond (is_same x.entity type² && (positive from && positive count))
    (Some (spelt_entry x (parameter_line (size_of from)) (size_of count))) None

-- all of it; none if a field is misspelt
abbrev pub spelt : Numbers → Option Signed → Option Signed → Option Signed → Option Spelt
spelt misspelt type² from count = None
spelt (numbers ns) type² from count = spelt_as (fields_of ns) type² from count

-- the entry whose first D line is line k of the file
unfoldable pub entry_at : List ℕ → ℕ → Option Spelt
entry_at f k =
    spelt (numbers_from f k 0 field_count) (signed_of (slot_in f k again)) (signed_of (slot_in f k pointer)) (signed_of (slot_in f k lines))

-- the label, eight columns as they stand
unfoldable pub label_at : List ℕ → ℕ → List ℕ
label_at f k = slot_in f k label

-- ---- writing: numbers right-justified with blanks, status 8 digits, reserved columns blank

-- number n of the entry
abbrev pub written : ℕ → Signed → List ℕ
written n x = cond (eqb n status_at) (zero_filled field_columns x.size) (padded field_columns (signed_dec x))

-- what stands in a field
abbrev pub slot_of : Fields → ℕ → ℕ → List ℕ → Slot → List ℕ
slot_of x from count name (number n) = written n (get_or (in_order x) n nought)
slot_of x from count name again = written type_at x.entity
slot_of x from count name pointer = padded field_columns (dec from)
slot_of x from count name lines = padded field_columns (dec count)
slot_of x from count name reserved = replicate field_columns space
slot_of x from count name label = name

-- the columns 1-72 of an entry's two D lines: its numbers, the pointer and line count of its parameters, its label
unfoldable pub entry_lines : Fields → ℕ → ℕ → List ℕ → List (List ℕ)
entry_lines x from count name =
    joined (map (slot_of x from count name) (take slots_a_line slots))
    ∷ joined (map (slot_of x from count name) (drop slots_a_line slots))
    ∷ []
