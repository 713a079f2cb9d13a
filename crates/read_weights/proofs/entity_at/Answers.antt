-- The entry that stands there tells where its record is; what is refused has its place.
use borrow.Author.Rules.{rules}
use Rattle.read_weights.proofs.Weighing.{ones}
use Rattle.read_weights.proofs.entity_at.Goals as goal

pub returns-in-None : goal.returns-in-None
returns-in-None c = search (rules, ones)

pub returns-in-Some : goal.returns-in-Some
returns-in-Some c = search (rules, ones)

pub row_at-requires-clause-lines_bound : goal.row_at-requires-clause-lines_bound
row_at-requires-clause-lines_bound c = search (rules, ones)
