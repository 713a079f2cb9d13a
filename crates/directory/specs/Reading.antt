-- The code's form: what the code goes by besides its answers: where a slot stands, the two lines one by one, how large what was read can
-- be, and what can be read back.
use Rattle.std.specs.Prelude.{◌≡◌, true, false, List, [], ◌∷◌, ◌++◌, map, ℕ, ◌+◌, ◌*◌, ◌/◌, ◌%◌}
use Rattle.std.specs.Prelude.{◌≤◌, ◌<◌, length, take, drop}
use Rattle.std.specs.Prelude.{Option, Some, None}
use Rattle.columns.specs.declared.Signed.{Signed}
use Rattle.columns.specs.declared.ParameterLine.{ParameterLine}
use Rattle.columns.specs.Columns.{columns, line_at, joined}
use Rattle.columns.specs.Fixed.{NormalSign}
use Rattle.columns.specs.Decimal.{signed_dec, padded}
use Rattle.columns.specs.Format.{line_bytes, field_columns}
use Rattle.directory.specs.declared.Fields.{Fields}
use Rattle.directory.specs.declared.Spelt.{Spelt}
use Rattle.directory.specs.Fields.{in_order}
use Rattle.directory.specs.Rules.{ranges_ok}
use Rattle.directory.specs.Lines.{slots, slots_a_line, slot_of}

-- ---- where a slot stands

-- the columns of slot j of the entry whose first D line is line k
unfoldable pub slot_at : List ℕ → ℕ → ℕ → List ℕ
slot_at f k j =
    columns (line_at f (k + j / slots_a_line)) (field_columns * (j % slots_a_line))
    (field_columns * (j % slots_a_line) + field_columns)

-- its first byte in the file
abbrev pub start_of : ℕ → ℕ → ℕ
start_of k j = line_bytes * (k + j / slots_a_line) + field_columns * (j % slots_a_line)

-- ---- the lines as they are written

-- three numbers side by side
unfoldable pub three : Signed → Signed → Signed → List ℕ
three x y z = padded field_columns (signed_dec x) ++ (padded field_columns (signed_dec y) ++ padded field_columns (signed_dec z))

-- the two elements of entry_lines: neither line has what stands on the other
unfoldable pub first_line : Fields → ℕ → List ℕ
first_line x from = joined (map (slot_of x from 0 []) (take slots_a_line slots))

-- the columns of the second line
unfoldable pub second_line : Fields → ℕ → List ℕ → List ℕ
second_line x count name = joined (map (slot_of x 0 count name) (drop slots_a_line slots))

-- ---- how large

-- a number that was read from eight columns: it fits them, so it is below ten to the eighth, and nought has no sign
pub record Eight (x : Signed) : Type 0 where
  pub fits : length (signed_dec x) ≤ field_columns
  pub below : x.size < 100000000
  pub normal : NormalSign x

-- what was read: numbers of eight columns, status and subscript without a sign, parameter pointer and line count at least 1
pub record Within (x : Fields) (from : ParameterLine) (count : ℕ) : Type 0 where
  pub entity : Eight x.entity
  pub form : Eight x.form
  pub structure : Eight x.structure
  pub font : Eight x.font
  pub level : Eight x.level
  pub view : Eight x.view
  pub matrix : Eight x.matrix
  pub display : Eight x.display
  pub status : Eight x.status
  pub weight : Eight x.weight
  pub colour : Eight x.colour
  pub subscript : Eight x.subscript
  pub status_plain : x.status.neg ≡ false
  pub subscript_plain : x.subscript.neg ≡ false
  pub from_low : 1 ≤ from.0
  pub from_high : from.0 ≤ 99999999
  pub count_low : 1 ≤ count
  pub count_high : count ≤ 99999999

-- the same of an entry, if it was read
abbrev pub Small : Option Spelt → Type 0
Small (Some e) = Within e.fields e.pointer e.lines
Small None = Unit {0}

-- none is a nought with a sign
abbrev pub Normals : List Signed → Type 0
Normals [] = Unit {0}
Normals (x ∷ xs) = NormalSign x × Normals xs

-- what can be written and read back: numbers in their ranges, a pointer, a line count and a label that fit their columns
pub record Writable (x : Fields) (from count : ℕ) (name : List ℕ) : Type 0 where
  pub ranges : ranges_ok x ≡ true
  pub normal : Normals (in_order x)
  pub status_plain : x.status.neg ≡ false
  pub from_low : 1 ≤ from
  pub from_high : from ≤ 99999999
  pub count_low : 1 ≤ count
  pub count_high : count ≤ 99999999
  pub label : length name ≡ field_columns
