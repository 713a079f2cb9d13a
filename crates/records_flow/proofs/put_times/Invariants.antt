-- What is written so far is b, as often as counted.
use mathlib.Core.Path.{◌≡◌}
use Prim.Native.Nat.{◌+◌}
use lib.ListN.{replicate}
use Rattle.records.specs.Written.{Put}
use Rattle.records_flow.proofs.put_times.Given as goal

abbrev pub invariant-loop : goal.invariant-loop
invariant-loop l =
    (l.next ≡ l.p + l.counter) × Put l.base l.w l.initial.out l.p (replicate l.counter l.b) l.out l.next
