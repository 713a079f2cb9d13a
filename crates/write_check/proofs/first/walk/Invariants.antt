-- The lines from `at` on have the verdict of all; the first refusal so far and theirs is that of all; their classes, laid from k, make the table that all make;
-- counted behind the tally so far they are as many as all.
use Rattle.std.proofs.Common.{◌≡◌, ◌+◌, ◌-◌, ◌^◌, ◌≤◌, length, drop}
use Rattle.columns.specs.Laid.{laid}
use Rattle.sheets.specs.Sheet.{lines_in}
use Rattle.sheets.specs.Order.{go_lines, verdict_of}
use Rattle.model.specs.Write.{global_rule, row_rules}
use Rattle.file_canonical.specs.Counting.{tallied, within, lines_of_sheet, Under}
use Rattle.write_lines.specs.Lines.{or_else, lines_pass}
use Rattle.write_lines.specs.Classes.{classes_in}
use Rattle.write_lines.specs.Passes.{rules_pass}
use Rattle.write_check.proofs.first.walk.Given as goal

abbrev pub invariant-loop-at : goal.invariant-loop-at
invariant-loop-at l =
    (l.st.line ≤ l.at) × (l.st.entries ≤ l.st.line) × (l.at ≤ l.n) × (l.n ≡ length l.t) × (l.k ≤ l.at)
    × (length l.classes ≡ length l.initial.classes)
    × (go_lines l.st (lines_in (drop l.at l.t)) ≡ verdict_of l.t)
    × (or_else l.pass (lines_pass global_rule row_rules (l.st.line + 1) (lines_in (drop l.at l.t))) ≡ rules_pass l.t)
    × (laid l.classes l.k (classes_in (lines_in (drop l.at l.t))) ≡ laid l.initial.classes 0 (classes_in (lines_in l.t)))
    × Under (2 ^ 36) l.tally
    × (within (tallied l.tally (lines_in (drop l.at l.t))) ≡ lines_of_sheet (lines_in l.t))

abbrev pub decreases-loop-at : goal.decreases-loop-at
decreases-loop-at l = l.n - l.at
