-- The lines from `at` on, at their places, have the answer of all lines.
use mathlib.Core.Path.{◌≡◌}
use Prim.Native.Nat.{◌+◌, ◌-◌, ◌≤◌}
use lib.ListN.{length}
use Rattle.write_lines.specs.Classes.{sheet_types}
use Rattle.write_lines.specs.Passes.{references_from}
use Rattle.write_lines.proofs.refer.references.Given as goal

abbrev pub invariant-loop-at : goal.invariant-loop-at
invariant-loop-at l =
    (l.place ≤ l.at + 1) × (l.at ≤ l.size) × (l.size ≡ length l.t)
    × (references_from (sheet_types l.t) l.t l.place l.at ≡ references_from (sheet_types l.t) l.t l.initial.place l.from)

abbrev pub decreases-loop-at : goal.decreases-loop-at
decreases-loop-at l = l.size - l.at
