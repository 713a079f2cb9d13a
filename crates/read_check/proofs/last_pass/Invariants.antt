-- What is left of the entities has the answer of all, and the bytes so far with theirs are the bytes of all.
use mathlib.Core.Path.{◌≡◌}
use Prim.Native.Nat.{◌+◌, ◌-◌, ◌*◌, ◌≤◌}
use Rattle.model.specs.Read.{last_pass}
use Rattle.read_passes.specs.Passes.{pass_of}
use Rattle.read_passes.specs.Listed.{all_entries}
use Rattle.read_passes.specs.Walks.{first_among}
use Rattle.read_weights.specs.Checks.{delimited, entity_at}
use Rattle.read_weights.specs.Weights.{rows_from, rows_length}
use Rattle.read_check.proofs.last_pass.Given as goal

abbrev pub invariant-loop-i : goal.invariant-loop-i
invariant-loop-i l =
    (first_among (entity_at l.list l.file l.c l.parameter l.closing) l.i (l.n - l.i) ≡ pass_of (last_pass l.list l.file l.c (delimited l.parameter l.closing) (all_entries l.file l.c))) × (l.length + rows_from l.list l.file l.c l.parameter l.closing l.i (l.n - l.i) ≡ rows_length l.list l.file l.c l.parameter l.closing) × (l.length ≤ 15000000000 * l.i)
