use borrow.Author.Rules.{rules}
use Rattle.read_entities.proofs.Walks.{defaults}
use Rattle.read_walk.proofs.behind_defaults.Goals as goal

pub loop-preserved : goal.loop-preserved
loop-preserved c = search (rules, defaults)

pub returns : goal.returns
returns c = search (rules, defaults)
