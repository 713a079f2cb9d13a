-- The code's form: the answer of all checks of a sheet.
use Rattle.std.specs.Prelude.{◌≡◌, ℕ, List, length, Ok, Result, Err}
use Rattle.columns.specs.declared.SheetLine.{SheetLine}
use Rattle.columns.specs.declared.Refusal.{Refusal}
use Rattle.write_lines.specs.Lines.{SheetPass}
use Rattle.columns.specs.Refusal.{Outcome, accepted, refused, refusal_at}
use Rattle.sheets.specs.Sheet.{lines_in}
use Rattle.sheets.specs.Order.{sheet_line, SheetVerdict}
use Rattle.model.specs.Model.{Model}
use Rattle.model.specs.Write.{write_model}
use Rattle.file_canonical.specs.Counting.{lines_of_sheet, Lines}
use Rattle.file_canonical.specs.declared.Tally.{Tally}
use Rattle.write_check.specs.declared.SheetWalked.{SheetWalked}
use Rattle.write_check.specs.declared.Ruled.{Ruled}

-- the entry count and the lines of the file, or the first refusal
abbrev pub Ruling : Type 0
Ruling = Result Ruled (Refusal SheetLine)

abbrev pub ruled : ℕ → Lines → Ruling
ruled n k = Ok (record { entries = n; lines = k })

abbrev pub told : Lines → Outcome Model → Ruling
told k (accepted m) = ruled (length m.entries) k
told k (refused n place) = Err (refusal_at n (sheet_line place))

-- of a text under a list
unfoldable pub ruled_of : ℕ → List ℕ → Ruling
ruled_of list t = told (lines_of_sheet (lines_in t)) (write_model list t)

-- what the first walk tells
abbrev pub walked_so : SheetVerdict → SheetPass → Tally → SheetWalked
walked_so v p x = record { verdict = v; pass = p; tally = x }

-- what holds where a sheet's lines are good
pub record IfGood (v : SheetVerdict) (A : Type 0) : Type 0 where
  pub so : (n : ℕ) → v ≡ Ok n → A
