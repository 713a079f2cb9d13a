-- The code's form: values with their delimiters before the record ends, the ends of lines, and what the line at a place says.
use Rattle.std.specs.Prelude.{◌≡◌, false, List, [], ◌∷◌, ◌++◌, ℕ, zero, suc, ◌+◌, ◌-◌, ◌≤◌, ◌<◌}
use Rattle.std.specs.Prelude.{length, take, drop, Option, Some, None}
use Rattle.columns.specs.Decimal.{dec, padded}
use Rattle.columns.specs.Laid.{laid}
use Rattle.columns.specs.Format.{line_bytes, number_columns}
use Rattle.columns.specs.Letters.{space}
use Rattle.values.specs.declared.Value.{Value}
use Rattle.values.specs.Value.{Item, item_of}
use Rattle.records.specs.Flow.{piece}
use Rattle.records.specs.Global.{last_field}
use Rattle.records.specs.Reading.{Writable}
use Rattle.sheets_rows.specs.Rows.{lines_at}
use Rattle.file_blocks.specs.declared.GlobalLine.{GlobalLine}
use Rattle.file_blocks.specs.Blocks.{fields_at, behind_globals, tail_of}

-- ---- a record before it ends

-- the values from position p on, with ',' behind each: the last of these is written over when no value is left
unfoldable pub parted : ℕ → ℕ → List Item → List ℕ
parted w p [] = []
parted w p (v ∷ vs) = piece w p v false ++ parted w (p + length (piece w p v false)) vs

-- ---- the ends of lines

-- the columns 65 to 72 of a P line: a blank, and the directory number
abbrev pub owner_of : ℕ → List ℕ
owner_of number = space ∷ padded number_columns (dec number)

-- the ends of so many lines, the first of them at q with number n: m stands before the letter
unfoldable pub tailed : List ℕ → ℕ → List ℕ → ℕ → ℕ → ℕ → List ℕ
tailed o q m b n zero = o
tailed o q m b n (suc k) = tailed (laid o q (m ++ tail_of b n)) (q + line_bytes) m b (n + 1) k

-- ---- the line at a place

-- a G line with this number stands at this place
pub record FieldStands (t : List ℕ) (at number from end : ℕ) (v : Value) : Type 0 where
  pub low : at ≤ from
  pub inside : from ≤ end
  pub high : end < length t
  pub field : number ≤ last_field
  pub writable : Writable (end - from) v
  pub fields : fields_at t at ≡ (number, item_of (take (end - from) (drop from t)) v) ∷ fields_at t (end + 1)
  pub behind : behind_globals (lines_at t at) ≡ behind_globals (lines_at t (end + 1))

-- no G line stands at this place
pub record FieldsEnd (t : List ℕ) (at : ℕ) : Type 0 where
  pub fields : fields_at t at ≡ []
  pub behind : behind_globals (lines_at t at) ≡ lines_at t at

-- there is a G line, or they end
abbrev pub FieldAt : List ℕ → ℕ → Option GlobalLine → Type 0
FieldAt t at (Some g) = FieldStands t at g.number g.from g.end g.value
FieldAt t at None = FieldsEnd t at
