-- `line_owned`: the four tests of `inRange`; the entry is known to be there where its range is read.
use borrow.Author.Rules.{rules}
use Rattle.owners.proofs.Laws.{tests}
use Rattle.owners_pass.proofs.line_owned.Goals as goal

pub owner_at-owner-requires : goal.owner_at-owner-requires
owner_at-owner-requires c = search (rules, tests)

pub wide-m-requires : goal.wide-m-requires
wide-m-requires c = search (rules, tests)

pub wide-n-requires : goal.wide-n-requires
wide-n-requires c = search (rules, tests)

pub returns-then-m-ne1 : goal.returns-then-m-ne1
returns-then-m-ne1 c = search (rules, tests)

pub returns-then-n-i : goal.returns-then-n-i
returns-then-n-i c = search (rules, tests)

pub from_at-from-requires : goal.from_at-from-requires
from_at-from-requires c = search (rules, tests)

pub count_at-count-requires : goal.count_at-count-requires
count_at-count-requires c = search (rules, tests)

pub wide-line-requires : goal.wide-line-requires
wide-line-requires c = search (rules, tests)

pub wide-start-requires : goal.wide-start-requires
wide-start-requires c = search (rules, tests)

pub returns-then-line-start : goal.returns-then-line-start
returns-then-line-start c = search (rules, tests)

pub wide-requires : goal.wide-requires
wide-requires c = search (rules, tests)

pub overflow_add-result : goal.overflow_add-result
overflow_add-result c = search (rules, tests)

pub returns : goal.returns
returns c = search (rules, tests)
