-- The ends of the lines from i on are still to be laid.
use mathlib.Core.Path.{◌≡◌}
use Prim.Native.Nat.{◌+◌, ◌-◌, ◌*◌}
use Rattle.file_blocks.specs.Writing.{owner_of, tailed}
use Rattle.file_parameters.proofs.put_tails.Given as goal

abbrev pub invariant-loop-i : goal.invariant-loop-i
invariant-loop-i l =
    (l.at ≡ l.q + 81 * l.i)
    × (tailed l.out l.at (owner_of l.number.0) 80 (l.from.0 + l.i) (l.lines - l.i)
    ≡ tailed l.initial.out l.q (owner_of l.number.0) 80 l.from.0 l.lines)
