-- The entry looked for is entry `left` of the lines from `at` on.
use mathlib.Core.Path.{◌≡◌}
use Prim.Native.Nat.{◌-◌, ◌≤◌}
use lib.ListN.{length, get_or, drop}
use Rattle.sheets.specs.Sheet.{lines_in}
use Rattle.write_lines.specs.Classes.{classes_in}
use Rattle.write_lines.proofs.table.class_past.Given as goal

abbrev pub invariant-loop-at : goal.invariant-loop-at
invariant-loop-at l =
    (l.at ≤ l.n) × (l.n ≡ length l.t) × (get_or (classes_in (lines_in (drop l.at l.t))) l.left 0 ≡ get_or (classes_in (lines_in l.t)) l.i 0)

abbrev pub decreases-loop-at : goal.decreases-loop-at
decreases-loop-at l = l.n - l.at
