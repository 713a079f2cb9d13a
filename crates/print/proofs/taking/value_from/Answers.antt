-- What is read in a record keeps its limits and ends within the text.
use borrow.Author.Rules.{rules}
use Rattle.print.proofs.Taken.{taking}
use Rattle.print.proofs.taking.value_from.Goals as goal

pub value_at-g-requires : goal.value_at-g-requires
value_at-g-requires c = search (rules, taking)

pub taken_of-requires : goal.taken_of-requires
taken_of-requires c = search (rules, taking)

pub returns : goal.returns
returns c = search (rules, taking)
