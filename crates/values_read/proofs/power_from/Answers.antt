-- `values_read::power_from`: one to three digits are an exponent; else the first place that cannot go on with it is told.
use borrow.Author.Rules.{rules}
use Rattle.values.proofs.Laws.{laws}
use Rattle.values_read.proofs.power_from.Goals as goal

pub returns-then-count-lt1 : goal.returns-then-count-lt1
returns-then-count-lt1 c = search (rules, laws)

pub overflow_add-result : goal.overflow_add-result
overflow_add-result c = search (rules, laws)

pub returns-then-count-gt3 : goal.returns-then-count-gt3
returns-then-count-gt3 c = search (rules, laws)

pub overflow_cast-result : goal.overflow_cast-result
overflow_cast-result c = search (rules, laws)

pub overflow_cast-result-else-neg : goal.overflow_cast-result-else-neg
overflow_cast-result-else-neg c = search (rules, laws)

pub returns-then-neg : goal.returns-then-neg
returns-then-neg c = search (rules, laws)

pub returns-else-neg : goal.returns-else-neg
returns-else-neg c = search (rules, laws)
