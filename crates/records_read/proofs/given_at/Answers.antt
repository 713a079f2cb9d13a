-- A head is read in the rest of its line, a part of the file; it is a string's count or a number.
use borrow.Author.Rules.{rules}
use Rattle.records_read.proofs.Laws.{ends_laws}
use Rattle.records_read.proofs.given_at.Goals as goal

pub returns-then-lines-w : goal.returns-then-lines-w
returns-then-lines-w c = search (rules, ends_laws)

pub plain_at-requires-clause-within : goal.plain_at-requires-clause-within
plain_at-requires-clause-within c = search (rules, ends_laws)

pub returns-in-Count : goal.returns-in-Count
returns-in-Count c = search (rules, ends_laws)

pub returns-in-Plain : goal.returns-in-Plain
returns-in-Plain c = search (rules, ends_laws)
