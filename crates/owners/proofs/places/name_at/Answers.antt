use borrow.Author.Rules.{rules}
use Rattle.owners.proofs.Laws.{fields}
use Rattle.owners.proofs.places.name_at.Goals as goal

pub returns-then-file-at-ne32 : goal.returns-then-file-at-ne32
returns-then-file-at-ne32 c = search (rules, fields)

pub returns : goal.returns
returns c = search (rules, fields)
