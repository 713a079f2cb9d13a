use borrow.Author.Rules.{rules}
use Rattle.records_read.proofs.Laws.{ends_laws}
use Rattle.records_read.proofs.count_at.Goals as goal

pub returns-then-lines-w : goal.returns-then-lines-w
returns-then-lines-w c = search (rules, ends_laws)

pub returns : goal.returns
returns c = search (rules, ends_laws)
