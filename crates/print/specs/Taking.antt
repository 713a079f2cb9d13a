-- The code's form: how printing goes through a record's values: what it meets, and what it needs and leaves at a value that is given.
use Rattle.std.specs.Prelude.{ℕ, ◌+◌, ◌*◌, ◌^◌, ◌≤◌, ◌<◌, ◌≡◌}
use Rattle.std.specs.Prelude.{true, List, [], ◌∷◌, length, Option, Ok, Err}
use Rattle.columns.specs.Columns.{text_of}
use Rattle.columns.specs.Laid.{Wrote}
use Rattle.columns.specs.Format.{line_bytes, parameter_columns}
use Rattle.values.specs.declared.Value.{Value}
use Rattle.values.specs.declared.Value.TheVariants.{Default}
use Rattle.values.specs.Value.{Item, item_of}
use Rattle.records.specs.Record.{Got, Values, values, values_at}
use Rattle.records.specs.Reading.{Stands, Writable}
use Rattle.directory.specs.Naming.{types_at}
use Rattle.layouts.specs.declared.LayoutState.{LayoutState}
use Rattle.layouts.specs.Walk.{run}
use Rattle.read_entities.specs.Marks.{marked_from}
use Rattle.read_entities.specs.Walking.{owing}
use Rattle.print.specs.declared.Met.{Met}
use Rattle.print.specs.declared.Behind.{Behind}
use Rattle.print.specs.Bytes.{value_bytes}

-- a record that reads without a refusal
pub record Unrefused (vals : Values) : Type 0 where
  pub items : List Item
  pub end : ℕ
  pub is : vals ≡ values items end

-- a value that is met; a refused one would end the record
abbrev pub met_of : Got → Met
met_of (Ok r) = record { value = r.value; next = r.next; last = r.last }
met_of (Err r) = record { value = Default; next = r.at; last = true }

-- an entity's record stands in the file and is not refused, and n entries from line first on, for what it names
pub record ValuesStand (f : List ℕ) (base lines c d first n : ℕ) : Type 0 where
  pub stands : Stands f base parameter_columns lines
  pub parameter : 0 < c
  pub closing : 0 < d
  pub directory_there : line_bytes * (first + 2 * n) ≤ length f
  pub unrefused : Unrefused (values_at parameter_columns c d (text_of f base parameter_columns lines) 0)

-- ---- a value that is given, so many defaults owed before it

-- it stands in its record, the record and the entries in the file, and there is room for the lines
pub record GivenStands (f : List ℕ) (base lines first n owed : ℕ) (v : Value) (at : ℕ) : Type 0 where
  pub stands : Stands f base parameter_columns lines
  pub writable : Writable (lines * parameter_columns) v
  pub directory_there : line_bytes * (first + 2 * n) ≤ length f
  pub room : at + 1100 * owed < 2 ^ 59

-- the lines of the defaults and its own are laid, and the marks stand behind it
pub record GivenPut (f : List ℕ) (base lines first n : ℕ) (g : Option LayoutState) (owed : ℕ) (v : Value) (o : List ℕ) (at : ℕ)
    (o' : List ℕ) (r : Behind) : Type 0 where
  pub laid :
      Wrote o at
      (value_bytes (marked_from (types_at f first n) g (owing owed (item_of (text_of f base parameter_columns lines) v ∷ [])))) o'
      r.next
  pub marks : r.marks ≡ run (types_at f first n) g (owing owed (item_of (text_of f base parameter_columns lines) v ∷ []))
  pub near : r.next ≤ at + 1100 * owed + 1100
