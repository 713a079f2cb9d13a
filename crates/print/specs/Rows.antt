-- The code's form: the bytes of the entries as the code goes about them: entry i has its first D line at line first + 2 * i, and P line 1
-- is line parameters. An entry that is misspelt, or whose P lines do not stand in the file, has none: a file that was accepted has no such
-- entry.
use Rattle.std.specs.Prelude.{cond, List, [], ◌++◌, ℕ, zero, suc, ◌+◌, ◌-◌, ◌*◌, ◌≤◌, ◌<◌, length, leb}
use Rattle.std.specs.Prelude.{Option, Some, None}
use Rattle.columns.specs.Columns.{text_of}
use Rattle.columns.specs.Format.{line_bytes, parameter_columns, most_lines, most_bytes}
use Rattle.records.specs.Record.{values_at}
use Rattle.directory.specs.declared.Fields.{Fields}
use Rattle.directory.specs.declared.Spelt.{Spelt}
use Rattle.directory.specs.Lines.{entry_at, label_at}
use Rattle.directory.specs.Naming.{types_at}
use Rattle.read_entities.specs.Marks.{carried_in}
use Rattle.print.specs.Bytes.{entity_bytes}
use Rattle.print.specs.Taking.{Unrefused}

-- with these numbers, its record in count P lines from the one numbered pointer on
unfoldable pub spelt_bytes : ℕ → List ℕ → ℕ → ℕ → ℕ → ℕ → ℕ → ℕ → Fields → ℕ → ℕ → List ℕ
spelt_bytes list f first n parameters c d i x pointer count =
    cond (leb (line_bytes * (parameters + (pointer - 1)) + count * line_bytes) (length f))
    (entity_bytes list (types_at f first n) (2 * i + 1) x (label_at f (first + 2 * i))
    (carried_in (values_at parameter_columns c d (text_of f (line_bytes * (parameters + (pointer - 1))) parameter_columns count) 0)))
    []

abbrev pub read_bytes : ℕ → List ℕ → ℕ → ℕ → ℕ → ℕ → ℕ → ℕ → Option Spelt → List ℕ
read_bytes list f first n parameters c d i None = []
read_bytes list f first n parameters c d i (Some e) =
    spelt_bytes list f first n parameters c d i e.fields e.pointer.0 e.lines

unfoldable pub row_bytes : ℕ → List ℕ → ℕ → ℕ → ℕ → ℕ → ℕ → ℕ → List ℕ
row_bytes list f first n parameters c d i = read_bytes list f first n parameters c d i (entry_at f (first + 2 * i))

-- so many from entry i on
unfoldable pub rows_bytes : ℕ → List ℕ → ℕ → ℕ → ℕ → ℕ → ℕ → ℕ → ℕ → List ℕ
rows_bytes list f first n parameters c d i zero = []
rows_bytes list f first n parameters c d i (suc left) =
    row_bytes list f first n parameters c d i ++ rows_bytes list f first n parameters c d (i + 1) left

-- ---- records that are not refused

-- in count P lines from the one numbered pointer on, if they stand in the file
unfoldable pub SpeltReads : List ℕ → ℕ → ℕ → ℕ → ℕ → ℕ → Type 0
SpeltReads f parameters c d pointer count =
    line_bytes * (parameters + (pointer - 1)) + count * line_bytes ≤ length f
    → Unrefused (values_at parameter_columns c d (text_of f (line_bytes * (parameters + (pointer - 1))) parameter_columns count) 0)

-- a misspelt entry has none
abbrev pub EntryReads : List ℕ → ℕ → ℕ → ℕ → Option Spelt → Type 0
EntryReads f parameters c d None = Unit {0}
EntryReads f parameters c d (Some e) = SpeltReads f parameters c d e.pointer.0 e.lines

-- that of entry i
unfoldable pub RowReads : List ℕ → ℕ → ℕ → ℕ → ℕ → ℕ → Type 0
RowReads f first parameters c d i = EntryReads f parameters c d (entry_at f (first + 2 * i))

-- those of n entries
pub record RowsRead (f : List ℕ) (first n parameters c d : ℕ) : Type 0 where
  pub row : (i : ℕ) → i < n → RowReads f first parameters c d i

-- what printing them needs of a file: it is no longer than a file may be, has all D lines, and P line 1 is no further behind;
-- c and d are delimiters
pub record Printable (f : List ℕ) (first n parameters c d : ℕ) : Type 0 where
  pub file_short : length f ≤ most_bytes
  pub parameter : 0 < c
  pub closing : 0 < d
  pub directory_there : line_bytes * (first + 2 * n) ≤ length f
  pub parameters_near : parameters ≤ most_lines
