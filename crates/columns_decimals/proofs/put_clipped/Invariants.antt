-- With the digits of x laid the buffer would be as it must be; x loses its last.
use mathlib.Core.Path.{◌≡◌}
use Prim.Native.Nat.{◌+◌, ◌≤◌}
use lib.ListN.{length}
use Rattle.columns.specs.Decimal.{dec}
use Rattle.columns.specs.Laid.{laid}
use Rattle.columns_decimals.proofs.put_clipped.Given as goal

abbrev pub invariant-loop-x : goal.invariant-loop-x
invariant-loop-x l =
    (l.i ≡ l.at + length (dec l.x)) × (l.i ≤ l.end) × (length l.out ≡ length l.initial.out) × (laid l.out l.at (dec l.x) ≡ laid l.initial.out l.at (dec l.n))

abbrev pub decreases-loop-x : goal.decreases-loop-x
decreases-loop-x l = l.x
