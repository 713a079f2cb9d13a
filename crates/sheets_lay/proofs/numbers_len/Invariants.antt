-- What is counted and what the numbers from k on take is what all take.
use Rattle.std.proofs.Common.{◌≡◌, ◌+◌, ◌-◌, ◌*◌, ◌≤◌, length, drop}
use Rattle.sheets.specs.Line.{spells}
use Rattle.sheets_lay.proofs.numbers_len.Given as goal

abbrev pub invariant-loop-k : goal.invariant-loop-k
invariant-loop-k l = (l.size ≤ 21 * l.k) × (l.size + length (spells (13 - l.k) (drop l.k l.x-items)) ≡ length (spells 13 l.fn.xs))
