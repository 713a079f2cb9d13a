-- A turn goes on by a part or by a line.
use Rattle.std.proofs.Common.{◌≡◌, ◌+◌, ◌-◌, ◌≤◌, length}
use Rattle.write_lines.specs.Classes.{table_size}
use Rattle.write_check.proofs.marks.tell_parts.Given as goal

abbrev pub invariant-loop-at : goal.invariant-loop-at
invariant-loop-at l =
    (l.at ≤ l.size) × (l.size ≡ length l.t) × (l.q ≤ l.next) × (1 ≤ l.part) × (length l.table ≡ table_size)

abbrev pub decreases-loop-at : goal.decreases-loop-at
decreases-loop-at l = (l.size - l.at) + (l.size - l.next)
