-- By 64 or by w, the same line and column.
use borrow.Author.Rules.{rules}
use Rattle.records.proofs.Positions.{usual}
use Rattle.records.proofs.position.index_of.Goals as goal

pub overflow_mul-result : goal.overflow_mul-result
overflow_mul-result c = search (rules, usual)

pub overflow_add-result : goal.overflow_add-result
overflow_add-result c = search (rules, usual)

pub overflow_add-result-then-w-eq-PARAMETER_COLUMNS : goal.overflow_add-result-then-w-eq-PARAMETER_COLUMNS
overflow_add-result-then-w-eq-PARAMETER_COLUMNS c = search (rules, usual)

pub returns-then-w-eq-PARAMETER_COLUMNS : goal.returns-then-w-eq-PARAMETER_COLUMNS
returns-then-w-eq-PARAMETER_COLUMNS c = search (rules, usual)

pub nonzero_div-result-2 : goal.nonzero_div-result-2
nonzero_div-result-2 c = search (rules, usual)

pub overflow_mul-result-2 : goal.overflow_mul-result-2
overflow_mul-result-2 c = search (rules, usual)

pub overflow_add-result-2 : goal.overflow_add-result-2
overflow_add-result-2 c = search (rules, usual)

pub nonzero_rem-result-2 : goal.nonzero_rem-result-2
nonzero_rem-result-2 c = search (rules, usual)

pub overflow_add-result-3 : goal.overflow_add-result-3
overflow_add-result-3 c = search (rules, usual)

pub returns : goal.returns
returns c = search (rules, usual)
