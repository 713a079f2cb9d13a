use borrow.Author.Rules.{rules}
use Rattle.sheets.proofs.Plains.{numbers}
use Rattle.sheets_numbers.proofs.signed_at.Goals as goal

pub returns-then-end-at : goal.returns-then-end-at
returns-then-end-at c = search (rules, numbers)

pub returns-then-s-at-eq45 : goal.returns-then-s-at-eq45
returns-then-s-at-eq45 c = search (rules, numbers)

pub returns : goal.returns
returns c = search (rules, numbers)
