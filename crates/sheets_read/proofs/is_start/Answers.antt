-- The tests of `is_start` in their order; an empty text is good.
use borrow.Author.Rules.{rules}
use Rattle.sheets.proofs.Machine.{starts}
use Rattle.sheets_read.proofs.is_start.Goals as goal

pub returns-then-end-at : goal.returns-then-end-at
returns-then-end-at c = search (rules, starts)

pub overflow_sub-end : goal.overflow_sub-end
overflow_sub-end c = search (rules, starts)

pub returns-then-end-at-gt-TEXT_COLUMNS : goal.returns-then-end-at-gt-TEXT_COLUMNS
returns-then-end-at-gt-TEXT_COLUMNS c = search (rules, starts)

pub overflow_sub-end-2 : goal.overflow_sub-end-2
overflow_sub-end-2 c = search (rules, starts)

pub bounds-s-end : goal.bounds-s-end
bounds-s-end c = search (rules, starts)

pub returns-then-s-end-eq32 : goal.returns-then-s-end-eq32
returns-then-s-end-eq32 c = search (rules, starts)

pub is_printable-requires : goal.is_printable-requires
is_printable-requires c = search (rules, starts)

pub returns : goal.returns
returns c = search (rules, starts)
