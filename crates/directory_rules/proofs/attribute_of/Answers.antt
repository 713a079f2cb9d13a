-- A number with a sign is a reference.
use borrow.Author.Rules.{rules}
use Rattle.directory.proofs.Asked.{meaning}
use Rattle.directory_rules.proofs.attribute_of.Goals as goal

pub returns-then-x : goal.returns-then-x
returns-then-x c = search (rules, meaning)

pub returns : goal.returns
returns c = search (rules, meaning)
