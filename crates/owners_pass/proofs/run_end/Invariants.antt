-- `run_end`: the first line from here on that names another is the first of all.
use mathlib.Core.Path.{◌≡◌}
use Prim.Native.Nat.{◌-◌}
use Rattle.columns.specs.First.{first_not}
use Rattle.owners.specs.Owners.{name_is}
use Rattle.owners.specs.InFile.{owner_in}
use Rattle.owners_pass.proofs.run_end.Given as goal

abbrev pub invariant-loop-k : goal.invariant-loop-k
invariant-loop-k l =
    first_not (name_is (owner_in l.file l.c) l.m.0) l.k (l.end - l.k) ≡ first_not (name_is (owner_in l.file l.c) l.m.0) l.fn.from.0 l.count
