-- From entry to entry, up to `stop`.
use Prim.Native.Nat.{◌-◌, ◌≤◌}
use Rattle.write_lines.proofs.far.walk_to.Given as goal

abbrev pub invariant-loop-at : goal.invariant-loop-at
invariant-loop-at l = (1 ≤ l.at) × (l.at ≤ l.stop)

abbrev pub decreases-loop-at : goal.decreases-loop-at
decreases-loop-at l = l.stop - l.at
