-- R, or else whether it is V.
use borrow.Author.Rules.{rules}
use Rattle.sheets.proofs.Machine.{starts}
use Rattle.sheets_read.proofs.is_mark.Goals as goal

pub returns-then-b-eq82 : goal.returns-then-b-eq82
returns-then-b-eq82 c = search (rules, starts)

pub returns-else-b-eq82 : goal.returns-else-b-eq82
returns-else-b-eq82 c = search (rules, starts)
