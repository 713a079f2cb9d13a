-- `entry_owns`: the three tests of `entry_owns`; the range is known to stay in P where its lines are read.
use borrow.Author.Rules.{rules}
use Rattle.owners.proofs.Laws.{tests}
use Rattle.owners_pass.proofs.entry_owns.Goals as goal

pub from_at-from-requires : goal.from_at-from-requires
from_at-from-requires c = search (rules, tests)

pub count_at-count-requires : goal.count_at-count-requires
count_at-count-requires c = search (rules, tests)

pub wide-most-requires : goal.wide-most-requires
wide-most-requires c = search (rules, tests)

pub overflow_add-most : goal.overflow_add-most
overflow_add-most c = search (rules, tests)

pub returns-then-from-lt1 : goal.returns-then-from-lt1
returns-then-from-lt1 c = search (rules, tests)

pub wide-requires : goal.wide-requires
wide-requires c = search (rules, tests)

pub wide-requires-2 : goal.wide-requires-2
wide-requires-2 c = search (rules, tests)

pub overflow_add-behind : goal.overflow_add-behind
overflow_add-behind c = search (rules, tests)

pub returns-then-most-behind : goal.returns-then-most-behind
returns-then-most-behind c = search (rules, tests)

pub entry_number-requires : goal.entry_number-requires
entry_number-requires c = search (rules, tests)

pub run_end-end-requires : goal.run_end-end-requires
run_end-end-requires c = search (rules, tests)

pub wide-requires-3 : goal.wide-requires-3
wide-requires-3 c = search (rules, tests)

pub returns : goal.returns
returns c = search (rules, tests)
