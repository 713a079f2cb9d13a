-- Each vector lies behind the one before it, so there are no more of them than bytes.
use mathlib.Core.Path.{◌≡◌}
use Prim.Native.Nat.{◌-◌, ◌≤◌}
use lib.ListN.{length}
use Rattle.vectors.proofs.Packs.{Leads}
use Rattle.vectors.proofs.all.Given as goal

abbrev pub invariant-loop-at : goal.invariant-loop-at
invariant-loop-at _ l =
    (l.passed ≤ l.tried) × (l.tried ≤ l.at) × (l.at ≤ length l.p) × (length l.out ≡ length l.initial.out) × Leads l.p (length l.initial.out) l.at l.tried l.passed

abbrev pub decreases-loop-at : goal.decreases-loop-at
decreases-loop-at _ l = length l.p - l.at
