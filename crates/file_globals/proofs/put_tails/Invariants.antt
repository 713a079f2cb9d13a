-- The ends of the lines from i on are still to be laid.
use mathlib.Core.List.{[]}
use mathlib.Core.Path.{◌≡◌}
use Prim.Native.Nat.{◌+◌, ◌-◌, ◌*◌}
use Rattle.file_blocks.specs.Writing.{tailed}
use Rattle.file_globals.proofs.put_tails.Given as goal

abbrev pub invariant-loop-i : goal.invariant-loop-i
invariant-loop-i l =
    (l.at ≡ l.q + 81 * l.i)
    × (tailed l.out l.at [] 71 (1 + l.i) (l.lines - l.i) ≡ tailed l.initial.out l.q [] 71 1 l.lines)
