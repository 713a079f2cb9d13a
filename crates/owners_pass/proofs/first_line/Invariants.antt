-- `first_line`: the first line from here on that fails is the first of all.
use mathlib.Core.Path.{◌≡◌}
use Prim.Native.Nat.{◌-◌}
use Rattle.columns.specs.First.{first_not}
use Rattle.owners.specs.InFile.{line_in}
use Rattle.owners_pass.proofs.first_line.Given as goal

abbrev pub invariant-loop-k : goal.invariant-loop-k
invariant-loop-k l = first_not (line_in l.file l.c) l.k (l.end - l.k) ≡ first_not (line_in l.file l.c) 1 l.c.p
