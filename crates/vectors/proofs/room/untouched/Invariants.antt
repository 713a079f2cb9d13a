-- The bytes left are untouched exactly if all are: those that were passed are.
use mathlib.Core.Path.{◌≡◌}
use lib.ListN.{drop}
use Rattle.vectors.specs.Passing.{untouched}
use Rattle.vectors.proofs.room.untouched.Given as goal

abbrev pub invariant-loop-i : goal.invariant-loop-i
invariant-loop-i l = untouched (drop l.i l.out) ≡ untouched (drop l.from l.out)
