use borrow.Author.Rules.{rules}
use Rattle.sheets.proofs.Plains.{numbers}
use Rattle.sheets_numbers.proofs.num_at.Goals as goal

pub returns-then-left-eq3 : goal.returns-then-left-eq3
returns-then-left-eq3 c = search (rules, numbers)

pub returns : goal.returns
returns c = search (rules, numbers)
