-- `values_digits::scan_at`: the run so far and the digits left spell what all the digits spell; past sixteen digits another goes on.
use mathlib.Core.Path.{◌≡◌}
use Prim.Native.Nat.{◌+◌, ◌-◌, ◌≤◌}
use lib.ListN.{length, drop}
use Rattle.values.specs.Reading.{scan, cap_run, Small}
use Rattle.values_digits.proofs.scan_at.Given as goal

abbrev pub invariant-loop-k : goal.invariant-loop-k
invariant-loop-k l =
    (cap_run (scan (drop l.i l.t) l.initial.q) ≡ cap_run (scan (drop l.k l.t) l.q)) × (l.q.count + (length l.t - l.k) ≤ l.initial.q.count + (length l.t - l.i)) × Small l.q × (l.initial.q.count ≤ l.q.count)
