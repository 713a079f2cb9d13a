-- What is written of the sheet of a model that fits: its canonical file, or the refusal of a file that is too long. Assumes nothing.
use mathlib.Core.Path.{◌≡◌}
use Prim.Native.Nat.{ℕ, ◌≤◌, ◌<◌}
use borrow.Author.Tests.{le-leb, lt-leb}
use Rattle.columns.specs.declared.Fault.TheVariants.{TooLong}
use Rattle.columns.specs.Refusal.{accepted, refused}
use Rattle.columns.specs.Format.{most_lines}
use Rattle.sheets.specs.Sheet.{sheet_text}
use Rattle.model.specs.Model.{Model, sheet_of}
use Rattle.model.specs.Canonical.{line_total, canonical}
use Rattle.model.specs.Write.{writes}
use Rattle.model.specs.Fit.{Fits}
use Rattle.demands.proofs.ToSheet.{fits-writes}

module _ (list : ℕ) (m : Model) (f : Fits list m) where
  -- within the limit
  pub written_short : line_total m ≤ most_lines → writes list (sheet_text (sheet_of list m)) ≡ accepted (canonical m)
  unfolding writes
  written_short h = rw (fits-writes list m f, le-leb (line_total m) most_lines h)

  -- above it
  pub written_long : most_lines < line_total m → writes list (sheet_text (sheet_of list m)) ≡ refused TooLong 0
  unfolding writes
  written_long h = rw (fits-writes list m f, lt-leb (line_total m) most_lines h)
