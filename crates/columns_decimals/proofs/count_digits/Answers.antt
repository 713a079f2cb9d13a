use borrow.Author.Rules.{rules}
use Rattle.columns.proofs.Decimals.{counts}
use Rattle.columns_decimals.proofs.count_digits.Goals as goal

pub count_few-requires : goal.count_few-requires
count_few-requires c = search (rules, counts)

pub returns-then-n-lt100000000 : goal.returns-then-n-lt100000000
returns-then-n-lt100000000 c = search (rules, counts)

pub count_few-requires-then-high-lt100000000 : goal.count_few-requires-then-high-lt100000000
count_few-requires-then-high-lt100000000 c = search (rules, counts)

pub overflow_add-result : goal.overflow_add-result
overflow_add-result c = search (rules, counts)

pub returns-then-high-lt100000000 : goal.returns-then-high-lt100000000
returns-then-high-lt100000000 c = search (rules, counts)

pub count_few-requires-2 : goal.count_few-requires-2
count_few-requires-2 c = search (rules, counts)

pub overflow_add-result-2 : goal.overflow_add-result-2
overflow_add-result-2 c = search (rules, counts)

pub returns : goal.returns
returns c = search (rules, counts)
