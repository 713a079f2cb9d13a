-- The bytes between `low` and `high` become fewer.
use Prim.Native.Nat.{◌-◌, ◌≤◌}
use Rattle.write_lines.proofs.far.near.Given as goal

abbrev pub invariant-loop-high : goal.invariant-loop-high
invariant-loop-high l = (l.from ≤ l.low) × (l.low ≤ l.high) × (l.high ≤ l.stop)

abbrev pub decreases-loop-high : goal.decreases-loop-high
decreases-loop-high l = l.high - l.low
