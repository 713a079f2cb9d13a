-- What is written so far is the first bytes of s.
use mathlib.Core.Path.{◌≡◌}
use Prim.Native.Nat.{◌+◌}
use lib.ListN.{take}
use Rattle.records.specs.Written.{Put}
use Rattle.records_flow.proofs.put_each.Given as goal

abbrev pub invariant-loop-b : goal.invariant-loop-b
invariant-loop-b l =
    (l.next ≡ l.p + l.b-index) × Put l.base l.w l.initial.out l.p (take l.b-index l.s) l.out l.next
