use borrow.Author.Rules.{rules}
use Rattle.records_read.proofs.Laws.{laws}
use Rattle.records_read.proofs.char_at.Goals as goal

pub returns-then-p-lines : goal.returns-then-p-lines
returns-then-p-lines c = search (rules, laws)

pub returns-else-p-lines : goal.returns-else-p-lines
returns-else-p-lines c = search (rules, laws)
