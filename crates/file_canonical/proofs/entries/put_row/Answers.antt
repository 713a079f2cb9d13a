-- An entry line stands there: nothing else is read.
use borrow.Author.Rules.{rules}
use Rattle.file_canonical.proofs.Rowed.{turning}
use Rattle.file_canonical.proofs.entries.put_row.Goals as goal

pub put_entry-requires : goal.put_entry-requires
put_entry-requires c = search (rules, turning)

pub returns-in-Some : goal.returns-in-Some
returns-in-Some c = search (rules, turning)

pub returns-in-None : goal.returns-in-None
returns-in-None c = search (rules, turning)
