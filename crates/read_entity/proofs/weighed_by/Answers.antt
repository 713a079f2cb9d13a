use borrow.Author.Rules.{rules}
use Rattle.read_entity.proofs.Weighing.{weighed}
use Rattle.read_entity.proofs.weighed_by.Goals as goal

pub returns-in-Err : goal.returns-in-Err
returns-in-Err c = search (rules, weighed)

pub returns-in-Ok : goal.returns-in-Ok
returns-in-Ok c = search (rules, weighed)
