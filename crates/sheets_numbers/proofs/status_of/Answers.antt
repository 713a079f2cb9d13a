use borrow.Author.Rules.{rules}
use Rattle.sheets.proofs.Plains.{numbers}
use Rattle.sheets_numbers.proofs.status_of.Goals as goal

pub returns-then-n-lt100000000 : goal.returns-then-n-lt100000000
returns-then-n-lt100000000 c = search (rules, numbers)

pub returns-then-n-lt200000000 : goal.returns-then-n-lt200000000
returns-then-n-lt200000000 c = search (rules, numbers)

pub returns : goal.returns
returns c = search (rules, numbers)
