use borrow.Author.Rules.{rules}
use Rattle.owners.proofs.Laws.{fields}
use Rattle.owners.proofs.places.size_at.Goals as goal

pub returns : goal.returns
returns c = search (rules, fields)
