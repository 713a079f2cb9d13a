use borrow.Author.Rules.{rules}
use Rattle.read_entities.proofs.Walks.{walks}
use Rattle.read_walk.proofs.walk.Goals as goal

pub returns-in-Err-clause-value : goal.returns-in-Err-clause-value
returns-in-Err-clause-value c = search (rules, walks)

pub returns-then-last-clause-value : goal.returns-then-last-clause-value
returns-then-last-clause-value c = search (rules, walks)

pub loop-fault-preserved : goal.loop-fault-preserved
loop-fault-preserved c = search (rules, walks)
