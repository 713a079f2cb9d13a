-- A value that is not refused ends behind its start, within the text.
use borrow.Author.Rules.{rules}
use Rattle.print.proofs.Taken.{meeting}
use Rattle.print.proofs.taking.met_at.Goals as goal

pub value_at-g-requires : goal.value_at-g-requires
value_at-g-requires c = search (rules, meeting)

pub met_of-requires : goal.met_of-requires
met_of-requires c = search (rules, meeting)

pub returns : goal.returns
returns c = search (rules, meeting)
