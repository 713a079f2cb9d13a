-- The type stands in slot 0.
use borrow.Author.Rules.{rules}
use Rattle.directory_read.proofs.Spelt.{sizes}
use Rattle.directory_read.proofs.type_at.Goals as goal

pub size_in-requires : goal.size_in-requires
size_in-requires c = search (rules, sizes)

pub returns : goal.returns
returns c = search (rules, sizes)
