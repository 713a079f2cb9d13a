-- By the one test of `start_line`.
use borrow.Author.Rules.{rules}
use Rattle.sheets.proofs.Machine.{starts}
use Rattle.sheets_read.proofs.start_line.Goals as goal

pub is_start-requires : goal.is_start-requires
is_start-requires c = search (rules, starts)

pub returns-then-is_start : goal.returns-then-is_start
returns-then-is_start c = search (rules, starts)

pub returns : goal.returns
returns c = search (rules, starts)
