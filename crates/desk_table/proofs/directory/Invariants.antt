-- The records of the entries before i are stored.
use Rattle.std.proofs.Common.{◌≡◌}
use Rattle.desk_table.specs.Tables.{filled}
use Rattle.desk_table.proofs.directory.Given as goal

abbrev pub invariant-loop-i : goal.invariant-loop-i
invariant-loop-i l = l.slot-items ≡ filled l.list l.file l.told.first l.initial.slot-items l.i
