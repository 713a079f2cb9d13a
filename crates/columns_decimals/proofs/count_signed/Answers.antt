use borrow.Author.Rules.{rules}
use Rattle.columns.proofs.Decimals.{columned}
use Rattle.columns_decimals.proofs.count_signed.Goals as goal

pub overflow_cast-x : goal.overflow_cast-x
overflow_cast-x c = search (rules, columned)

pub count_digits-count-requires : goal.count_digits-count-requires
count_digits-count-requires c = search (rules, columned)

pub overflow_add-result : goal.overflow_add-result
overflow_add-result c = search (rules, columned)

pub returns-then-neg : goal.returns-then-neg
returns-then-neg c = search (rules, columned)

pub returns-else-neg : goal.returns-else-neg
returns-else-neg c = search (rules, columned)
