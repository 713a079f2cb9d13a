-- What is written so far is the first bytes of s.
use mathlib.Core.Path.{◌≡◌}
use Prim.Native.Nat.{◌+◌}
use lib.ListN.{length, take}
use Rattle.columns.specs.Laid.{Wrote}
use Rattle.columns_emit.proofs.put_all_clipped.Given as goal

abbrev pub invariant-loop-b : goal.invariant-loop-b
invariant-loop-b l =
    (l.next ≡ l.at + l.b-index) × (length l.out ≡ length l.initial.out) × Wrote l.initial.out l.at (take l.b-index l.s) l.out l.next
