-- Too short, no tab, or whether it is R or V.
use borrow.Author.Rules.{rules}
use Rattle.sheets.proofs.Valued.{beginnings}
use Rattle.sheets_read.proofs.is_value.Goals as goal

pub overflow_sub-end : goal.overflow_sub-end
overflow_sub-end c = search (rules, beginnings)

pub returns-then-end-at-lt2 : goal.returns-then-end-at-lt2
returns-then-end-at-lt2 c = search (rules, beginnings)

pub overflow_add-at : goal.overflow_add-at
overflow_add-at c = search (rules, beginnings)

pub bounds-s-at : goal.bounds-s-at
bounds-s-at c = search (rules, beginnings)

pub returns-then-s-at-ne9 : goal.returns-then-s-at-ne9
returns-then-s-at-ne9 c = search (rules, beginnings)

pub bounds-s-at-2 : goal.bounds-s-at-2
bounds-s-at-2 c = search (rules, beginnings)

pub is_mark-requires : goal.is_mark-requires
is_mark-requires c = search (rules, beginnings)

pub returns : goal.returns
returns c = search (rules, beginnings)
