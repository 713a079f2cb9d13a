-- What is said of the lines from `next` on is said of all from `from` on.
use Rattle.std.proofs.Common.{◌≡◌, ◌-◌, ◌^◌, ◌≤◌, length, drop}
use Rattle.sheets.specs.Sheet.{lines_in}
use Rattle.write_check.specs.Ahead.{Ahead}
use Rattle.write_check.proofs.first.past_values.Given as goal

abbrev pub invariant-loop-next : goal.invariant-loop-next
invariant-loop-next l =
    (l.from ≤ l.next) × (l.next ≤ l.n) × (l.n ≡ length l.t) × (l.at ≤ 2 ^ 38) × (l.state.line ≤ l.next) × (l.state.entries ≤ l.state.line)
    × Ahead l.initial.state l.initial.at (lines_in (drop l.from l.t)) l.state l.at (lines_in (drop l.next l.t))

abbrev pub decreases-loop-next : goal.decreases-loop-next
decreases-loop-next l = l.n - l.next
