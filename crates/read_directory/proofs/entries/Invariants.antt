-- What is left of the entries, behind what is kept, has the answer of all.
use mathlib.Core.Path.{◌≡◌}
use Prim.Native.Nat.{◌-◌}
use Rattle.read_passes.specs.Passes.{pass_of}
use Rattle.read_passes.specs.Walks.{or_else, first_among, entry_check, reference_check, entries_outcome}
use Rattle.read_directory.proofs.entries.Given as goal

abbrev pub invariant-loop-i : goal.invariant-loop-i
invariant-loop-i l =
    or_else (first_among (entry_check l.file l.c) l.i (l.n - l.i)) (or_else l.kept (first_among (reference_check l.file l.c) l.i (l.n - l.i))) ≡ pass_of (entries_outcome l.file l.c)
