-- What is still owed are the numbers from k on, a tab behind each.
use Rattle.std.proofs.Common.{◌≡◌, ◌+◌, ◌-◌, ◌*◌, ◌≤◌, length, drop}
use Rattle.columns.specs.Laid.{Owes}
use Rattle.sheets.specs.Line.{spells}
use Rattle.sheets_lay.proofs.put_numbers.Given as goal

abbrev pub invariant-loop-k : goal.invariant-loop-k
invariant-loop-k l =
    (length l.out ≡ length l.initial.out) × (l.next ≤ l.at + 29 * l.k)
    × Owes l.initial.out l.at (spells 13 l.fn.xs) l.out l.next (spells (13 - l.k) (drop l.k l.x-items))
