-- By the one test of `last_line`.
use borrow.Author.Rules.{rules}
use Rattle.sheets.proofs.Machine.{lines}
use Rattle.sheets_read.proofs.last_line.Goals as goal

pub size_at-n-requires : goal.size_at-n-requires
size_at-n-requires c = search (rules, lines)

pub returns-then-n-gt-MOST_INTEGER_WIDE : goal.returns-then-n-gt-MOST_INTEGER_WIDE
returns-then-n-gt-MOST_INTEGER_WIDE c = search (rules, lines)

pub returns : goal.returns
returns c = search (rules, lines)
