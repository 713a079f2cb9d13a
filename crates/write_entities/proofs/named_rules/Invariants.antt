-- The lines from `at` on, at their places, have the answer of all lines, in both passes.
use mathlib.Core.Path.{◌≡◌}
use Prim.Native.Nat.{◌+◌, ◌-◌, ◌≤◌}
use lib.ListN.{length}
use Rattle.write_lines.specs.Lines.{or_else}
use Rattle.write_lines.specs.Classes.{sheet_types}
use Rattle.write_lines.specs.Passes.{references_from, entities_from, references_pass, entities_pass}
use Rattle.write_entities.proofs.named_rules.Given as goal

abbrev pub invariant-loop-at : goal.invariant-loop-at
invariant-loop-at l =
    (l.place ≤ l.at + 1) × (l.at ≤ l.size) × (l.size ≡ length l.t)
    × (or_else (references_from (sheet_types l.t) l.t l.place l.at) (entities_from l.list (sheet_types l.t) l.t l.place l.at)
    ≡ or_else (references_pass l.t) (entities_pass l.list l.t))

abbrev pub decreases-loop-at : goal.decreases-loop-at
decreases-loop-at l = l.size - l.at
