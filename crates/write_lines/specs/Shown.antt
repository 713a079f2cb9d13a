-- The code's form: what a line shows of the entry with a directory number, where it was found by a guess.
use Rattle.std.specs.Prelude.{◌≡◌, Bool, true, cond, ◌&&◌, ◌||◌, List, ℕ, ◌+◌, ◌-◌, ◌≤◌, length, get_or, Ok}
use Rattle.std.specs.Prelude.{leb, eqb}
use Rattle.columns.specs.Columns.{columns}
use Rattle.columns.specs.Format.{most_integer}
use Rattle.columns.specs.Letters.{tab, newline, letter_e, letter_u}
use Rattle.sheets.specs.Line.{run}
use Rattle.sheets.specs.Folds.{plain_fold}
use Rattle.sheets.specs.Order.{verdict_of}
use Rattle.references.specs.References.{no_entry, class_of, class_at}
use Rattle.write_lines.specs.Classes.{sheet_types}

-- b begins an entry's line: E or U, behind an LF
unfoldable pub begins_entry : ℕ → ℕ → Bool
begins_entry before b = (eqb b letter_e || eqb b letter_u) && eqb before newline

-- such a line begins at a place of a good sheet
pub record EntryAt (t : List ℕ) (at : ℕ) : Type 0 where
  pub entries : ℕ
  pub good : verdict_of t ≡ Ok entries
  pub some : 1 ≤ at
  pub two : at + 2 ≤ length t
  pub begins : begins_entry (get_or t (at - 1) 0) (get_or t at 0) ≡ true

-- the plain number from `at` on, up to the next tab
unfoldable pub plain_at : List ℕ → ℕ → ℕ
plain_at t at = plain_fold (columns t at (at + run tab (columns t at (length t))))

-- the class of a type that is a plain number
unfoldable pub plain_class : ℕ → ℕ
plain_class typ = cond (leb typ most_integer) (class_of typ) no_entry

-- if any class was found, it is that of the entry with this number
pub record Shown (t : List ℕ) (number r : ℕ) : Type 0 where
  pub so : (r ≡ no_entry → ⊥) → r ≡ class_at (sheet_types t) number
