use borrow.Author.Rules.{rules}
use Rattle.desk_table.proofs.Plans.{plans}
use Rattle.desk_table.proofs.plan_for.Goals as goal

pub returns-in-Err : goal.returns-in-Err
returns-in-Err c = search (rules, plans)

pub returns-in-Ok : goal.returns-in-Ok
returns-in-Ok c = search (rules, plans)
