use borrow.Author.Rules.{rules}
use Rattle.records_read.proofs.Laws.{laws}
use Rattle.records_read.proofs.next_at.Goals as goal

pub returns-then-x-ne32 : goal.returns-then-x-ne32
returns-then-x-ne32 c = search (rules, laws)

pub behind_blanks-q-requires-clause-p_bound : goal.behind_blanks-q-requires-clause-p_bound
behind_blanks-q-requires-clause-p_bound c = search (rules, laws)

pub returns : goal.returns
returns c = search (rules, laws)
