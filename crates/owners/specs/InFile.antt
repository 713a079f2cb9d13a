-- The same of a file: the directory number in columns 66-72 of a P line, pointer and line count in their slots of an entry's D lines.
use Rattle.std.specs.Prelude.{ℕ, ◌+◌, ◌≤◌, Bool, cond, List, get_or, eqb}
use Rattle.std.specs.Prelude.{Option, Some, None}
use Rattle.columns.specs.declared.Signed.{Signed}
use Rattle.columns.specs.declared.Fault.TheVariants.{Ownership}
use Rattle.columns.specs.Refusal.{Outcome, accepted, refused}
use Rattle.columns.specs.Columns.{columns, line_at}
use Rattle.columns.specs.Fixed.{field_of, signed_of}
use Rattle.columns.specs.Format.{text_columns, parameter_columns, most_lines}
use Rattle.columns.specs.Letters.{space}
use Rattle.cards.specs.declared.Counts.{Counts}
use Rattle.cards.specs.Cards.{first_d, first_p, entries, entry_line, parameter_line}
use Rattle.directory.specs.Lines.{pointer, lines, slot_in}
use Rattle.owners.specs.declared.Owned.{Owned}
use Rattle.owners.specs.declared.Owned.TheVariants.{Everyone, Entry, Line}
use Rattle.owners.specs.Owners.{entry_owns, line_owned, owners_of}

-- a number, or 0 if it is badly spelt
unfoldable pub number_or0 : Option ℕ → ℕ
number_or0 None = 0
number_or0 (Some n) = n

-- the same with a sign: 0 also if it is negative
unfoldable pub size_or0 : Option Signed → ℕ
size_or0 None = 0
size_or0 (Some x) = cond x.neg 0 x.size

-- the directory number that a P line names: none if column 65 is not blank
unfoldable pub name_of : List ℕ → ℕ
name_of l = cond (eqb (get_or l parameter_columns 0) space) (number_or0 (field_of (columns l (parameter_columns + 1) text_columns))) 0

-- what P line k names
unfoldable pub owner_in : List ℕ → Counts → ℕ → ℕ
owner_in f c k = name_of (line_at f (parameter_line c k))

-- entry i's pointer
unfoldable pub from_in : List ℕ → Counts → ℕ → ℕ
from_in f c i = size_or0 (signed_of (slot_in f (entry_line c i) pointer))

-- entry i's line count
unfoldable pub count_in : List ℕ → Counts → ℕ → ℕ
count_in f c i = size_or0 (signed_of (slot_in f (entry_line c i) lines))

-- entry i passes
abbrev pub entry_in : List ℕ → Counts → ℕ → Bool
entry_in f c = entry_owns (owner_in f c) (from_in f c) (count_in f c) c.p

-- line k passes
abbrev pub line_in : List ℕ → Counts → ℕ → Bool
line_in f c = line_owned (owner_in f c) (from_in f c) (count_in f c) (entries c)

-- whether the P lines of a file with these counts have their entries
unfoldable pub owners_in : List ℕ → Counts → Owned
owners_in f c = owners_of (owner_in f c) (from_in f c) (count_in f c) (entries c) c.p

-- the file line of what was found: the entry's first D line, or the P line itself
abbrev pub line_of : Counts → Owned → ℕ
line_of c Everyone = 0
line_of c (Entry m) = first_d c + m.0
line_of c (Line k) = first_p c + k.0

-- refusal 11
abbrev pub outcome : Counts → Owned → Outcome (Unit {0})
outcome c Everyone = accepted tt
outcome c (Entry m) = refused Ownership (line_of c (Entry m))
outcome c (Line k) = refused Ownership (line_of c (Line k))

-- what was found is an entry or a line of some file
abbrev pub Small : Owned → Type 0
Small Everyone = Unit {0}
Small (Entry m) = (1 ≤ m.0) × (m.0 ≤ most_lines)
Small (Line k) = (1 ≤ k.0) × (k.0 ≤ most_lines)
