-- All columns are printable exactly if the least and the greatest of those passed are and those left are.
use mathlib.Core.Path.{◌≡◌}
use lib.ListN.{drop}
use Rattle.columns.specs.Columns.{printable}
use Rattle.columns.proofs.Looks.{between}
use Rattle.columns.proofs.look.is_printable.Given as goal

abbrev pub invariant-loop-b : goal.invariant-loop-b
invariant-loop-b l = between l.low l.high (printable (drop l.b-index l.b-items)) ≡ printable l.b-items
