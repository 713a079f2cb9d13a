-- The code's form: a pass over a sheet's lines in line order: the first refusal of what is asked of G lines and of entry lines.
use Rattle.std.specs.Prelude.{◌≡◌, List, [], ◌∷◌, ℕ, ◌+◌, Ok, Result, Err}
use Rattle.columns.specs.declared.SheetLine.{SheetLine}
use Rattle.columns.specs.declared.Refusal.{Refusal}
use Rattle.columns.specs.Refusal.{Outcome, accepted, refused, refusal_at}
use Rattle.values.specs.Value.{Item}
use Rattle.sheets.specs.Sheet.{Line, start, global, entry, value, last, none, Row, row}
use Rattle.sheets.specs.Order.{sheet_line}
use Rattle.sheets_rows.specs.Rows.{lines_at, values_first}

-- all is good, or the first refusal
abbrev pub SheetPass : Type 0
SheetPass = Result (Unit {0}) (Refusal SheetLine)

-- whether all is accepted, or the first refusal
abbrev pub pass_of : {A : Type 0} → Outcome A → SheetPass
pass_of (accepted a) = Ok tt
pass_of (refused n p) = Err (refusal_at n (sheet_line p))

-- the first refusal of two checks
abbrev pub or_else : SheetPass → SheetPass → SheetPass
or_else (Ok u) q = q
or_else (Err r) q = Err r

-- what is asked of a G line at its place
abbrev pub OfGlobal : Type 0
OfGlobal = ℕ → ℕ × Item → Outcome (Unit {0})

-- and of an entry line, with the values behind it
abbrev pub OfRow : Type 0
OfRow = ℕ → Row → Outcome (Unit {0})

-- nothing is asked of a G line
abbrev pub no_rule : OfGlobal
no_rule place g = accepted tt

-- a line, and those behind it: an entry has the values that stand there
abbrev pub line_check : OfGlobal → OfRow → ℕ → Line → List Line → SheetPass
line_check g f place (start t) ls = Ok tt
line_check g f place (global n v) ls = pass_of (g place (n, v))
line_check g f place (entry known n x label) ls = pass_of (f place (row known x label (values_first ls)))
line_check g f place (value reference v) ls = Ok tt
line_check g f place (last n) ls = Ok tt
line_check g f place (none b) ls = Ok tt

-- the lines from a place on
unfoldable pub lines_pass : OfGlobal → OfRow → ℕ → List Line → SheetPass
lines_pass g f place [] = Ok tt
lines_pass g f place (l ∷ ls) = or_else (line_check g f place l ls) (lines_pass g f (place + 1) ls)

-- the lines from `from` on are asked as those from `next` on: the so many between are asked nothing
pub record Skipped (t : List ℕ) (from next lines : ℕ) : Type 0 where
  pub same :
      (g : OfGlobal) (f : OfRow) (place : ℕ)
      → lines_pass g f (place + lines) (lines_at t next) ≡ lines_pass g f place (lines_at t from)
