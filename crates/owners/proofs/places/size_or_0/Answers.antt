use borrow.Author.Rules.{rules}
use Rattle.owners.proofs.Laws.{fields}
use Rattle.owners.proofs.places.size_or_0.Goals as goal

pub returns-in_default : goal.returns-in_default
returns-in_default c = search (rules, fields)

pub returns-then-x : goal.returns-then-x
returns-then-x c = search (rules, fields)

pub returns : goal.returns
returns c = search (rules, fields)
