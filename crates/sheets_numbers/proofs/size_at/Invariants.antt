-- The bytes left make of the number so far what all of them make of n.
use Rattle.std.proofs.Common.{◌≡◌, ◌≤◌, drop}
use Rattle.columns.specs.Columns.{columns}
use Rattle.sheets.specs.Folds.{unread, size_from}
use Rattle.sheets_numbers.proofs.size_at.Given as goal

abbrev pub invariant-loop-b : goal.invariant-loop-b
invariant-loop-b l = (l.v ≤ unread) × (size_from l.v (drop l.b-index l.b-items) ≡ size_from l.n (columns l.s l.at l.end))
