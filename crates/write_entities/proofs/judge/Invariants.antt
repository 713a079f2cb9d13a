-- The values from `next` on, from the state and the answer so far, have the answer of all values; what lies before is skipped.
use mathlib.Core.Path.{◌≡◌}
use mathlib.Core.Bool.{true}
use Prim.Native.Nat.{◌+◌, ◌-◌, ◌≤◌}
use lib.ListN.{length, drop}
use Rattle.sheets.specs.Sheet.{lines_in}
use Rattle.sheets_rows.specs.Rows.{values_first}
use Rattle.write_lines.specs.Lines.{Skipped}
use Rattle.write_lines.specs.Classes.{sheet_types}
use Rattle.write_entities.specs.Judging.{judged}
use Rattle.write_entities.proofs.judge.Given as goal

abbrev pub invariant-loop-next : goal.invariant-loop-next
invariant-loop-next l =
    (l.from + l.lines ≤ l.next) × (l.next ≤ l.size) × (l.size ≡ length l.t) × Skipped l.t l.from l.next l.lines
    × (judged (sheet_types l.t) l.state l.right (values_first (lines_in (drop l.next l.t)))
    ≡ judged (sheet_types l.t) l.initial.state true (values_first (lines_in (drop l.from l.t))))

abbrev pub decreases-loop-next : goal.decreases-loop-next
decreases-loop-next l = l.size - l.next
