-- A good sheet: its count tells the lines of its canonical file, or that they are more than a file may have. Assumes nothing.
use mathlib.Core.Path.{◌≡◌, ap, ◌∙◌}
use mathlib.Core.List.{List}
use Prim.Native.Nat.{ℕ, ◌≤◌, ◌<◌}
use Rattle.std.proofs.Common.{Ok, None, Some}
use Rattle.columns.specs.Format.{most_lines}
use Rattle.sheets.specs.Sheet.{lines_in, sheet_of}
use Rattle.sheets.specs.Order.{verdict_of}
use Rattle.sheets.proofs.Sheets.{good_written}
use Rattle.model.specs.Model.{model_of}
use Rattle.model.specs.Canonical.{line_total}
use Rattle.file_canonical.specs.Counting.{lines_of_sheet}
use Rattle.file_canonical.proofs.Totals.{counts_for, sheet_few, sheet-many}

module _ (t : List ℕ) (n : ℕ) (h : verdict_of t ≡ Ok n) where
  pub few_lines : line_total (model_of (sheet_of (lines_in t))) ≤ most_lines → lines_of_sheet (lines_in t) ≡ Some (counts_for (model_of (sheet_of (lines_in t))))
  few_lines k = ap lines_of_sheet (good_written t n h).lines ∙ sheet_few (sheet_of (lines_in t)) k

  pub many-lines : most_lines < line_total (model_of (sheet_of (lines_in t))) → lines_of_sheet (lines_in t) ≡ None
  many-lines k = ap lines_of_sheet (good_written t n h).lines ∙ sheet-many (sheet_of (lines_in t)) k
