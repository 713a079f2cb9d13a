-- The code's form: the classes of a sheet's entries, and the table that keeps them.
use Rattle.std.specs.Prelude.{◌≡◌, cond, ◌&&◌, List, ◌∷◌, map, ℕ, zero, suc, ◌/◌, ◌%◌, ◌≤◌, ◌<◌}
use Rattle.std.specs.Prelude.{ltb, Ok}
use Rattle.std.specs.Prelude.{eqb, length, get_or}
use Rattle.references.specs.References.{no_entry, other_entry, class_of}
use Rattle.sheets.specs.declared.Said.{Said}
use Rattle.sheets.specs.declared.Said.TheVariants.{Start, Global, Entry, Value as Given, Last, Nothing}
use Rattle.sheets.specs.Sheet.{Line, lines_in}
use Rattle.sheets.specs.Order.{verdict_of}
use Rattle.sheets_rows.specs.Rows.{types_in}

-- the types of a sheet's entries
unfoldable pub sheet_types : List ℕ → List ℕ
sheet_types t = types_in (lines_in t)

-- the classes of the entries in these lines
unfoldable pub classes_in : List Line → List ℕ
classes_in ls = map class_of (types_in ls)

-- the class of the entry that a line heads
abbrev pub said_class : Said → ℕ
said_class Start = no_entry
said_class (Global n at v) = no_entry
said_class (Entry known n x) = class_of x.entity.size
said_class (Given reference v) = no_entry
said_class (Last n) = no_entry
said_class (Nothing b) = no_entry

-- the classes with that of one line more: none, or one
abbrev pub with_class : ℕ → List ℕ → List ℕ
with_class zero cs = cs
with_class (suc c) cs = suc c ∷ cs

-- what a directory number names among n entries, where no type is asked for: an entry, or none
unfoldable pub some_at : ℕ → ℕ → ℕ
some_at n number = cond (eqb (number % 2) 1 && ltb (number / 2) n) other_entry no_entry

-- as many entries as a file of 200,000 lines can have: three lines of its own, and three for each entry
abbrev pub table_size : ℕ
table_size = 66665

-- a table for a good sheet of n entries: of their classes, if they are no more than it holds; else nothing is said of what it tells
pub record Tabled (classes : List ℕ) (n : ℕ) (t : List ℕ) : Type 0 where
  pub size : length classes ≡ table_size
  pub each : n ≤ table_size → (i : ℕ) → i < table_size → get_or classes i 0 ≡ get_or (classes_in (lines_in t)) i 0
  pub count : n ≡ length (sheet_types t)
  pub good : verdict_of t ≡ Ok n
