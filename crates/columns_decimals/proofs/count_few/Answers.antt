use borrow.Author.Rules.{rules}
use Rattle.columns.proofs.Decimals.{counts}
use Rattle.columns_decimals.proofs.count_few.Goals as goal

pub returns-then-n-lt10 : goal.returns-then-n-lt10
returns-then-n-lt10 c = search (rules, counts)

pub returns-else-n-lt10 : goal.returns-else-n-lt10
returns-else-n-lt10 c = search (rules, counts)

pub returns-then-n-lt1000 : goal.returns-then-n-lt1000
returns-then-n-lt1000 c = search (rules, counts)

pub returns-else-n-lt1000 : goal.returns-else-n-lt1000
returns-else-n-lt1000 c = search (rules, counts)

pub returns-then-n-lt100000 : goal.returns-then-n-lt100000
returns-then-n-lt100000 c = search (rules, counts)

pub returns-else-n-lt100000 : goal.returns-else-n-lt100000
returns-else-n-lt100000 c = search (rules, counts)

pub returns-then-n-lt10000000 : goal.returns-then-n-lt10000000
returns-then-n-lt10000000 c = search (rules, counts)

pub returns-else-n-lt10000000 : goal.returns-else-n-lt10000000
returns-else-n-lt10000000 c = search (rules, counts)
