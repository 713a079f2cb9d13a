-- By 64 or by w, the same column.
use borrow.Author.Rules.{rules}
use Rattle.records.proofs.Positions.{usual}
use Rattle.records.proofs.position.column_of.Goals as goal

pub returns-then-w-eq-PARAMETER_COLUMNS : goal.returns-then-w-eq-PARAMETER_COLUMNS
returns-then-w-eq-PARAMETER_COLUMNS c = search (rules, usual)

pub nonzero_rem-result-2 : goal.nonzero_rem-result-2
nonzero_rem-result-2 c = search (rules, usual)

pub returns : goal.returns
returns c = search (rules, usual)
