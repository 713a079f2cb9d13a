use borrow.Author.Rules.{rules}
use Rattle.desk_table.proofs.Plans.{plans}
use Rattle.desk_table.proofs.plan_with.Goals as goal

pub returns-then-room-count : goal.returns-then-room-count
returns-then-room-count c = search (rules, plans)

pub returns : goal.returns
returns c = search (rules, plans)
