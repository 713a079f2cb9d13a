-- `first_entry`: the first entry from here on that fails is the first of all.
use mathlib.Core.Path.{◌≡◌}
use Prim.Native.Nat.{◌-◌, ◌/◌}
use Rattle.columns.specs.First.{first_not}
use Rattle.owners.specs.InFile.{entry_in}
use Rattle.owners_pass.proofs.first_entry.Given as goal

abbrev pub invariant-loop-i : goal.invariant-loop-i
invariant-loop-i l = first_not (entry_in l.file l.c) l.i (l.n - l.i) ≡ first_not (entry_in l.file l.c) 0 (l.c.d / 2)
