-- After i turns the first i bytes of s are written.
use mathlib.Core.Path.{◌≡◌}
use Prim.Native.Nat.{◌+◌}
use lib.ListN.{length, take}
use Rattle.columns.specs.Laid.{Wrote}
use Rattle.columns_emit.proofs.put_all.Given as goal

abbrev pub invariant-loop-i : goal.invariant-loop-i
invariant-loop-i l = (length l.out ≡ length l.initial.out) × Wrote l.initial.out l.at (take l.i l.s) l.out (l.at + l.i)
