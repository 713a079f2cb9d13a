-- The mark and a tab, the thirteen numbers, the label and LF.
use borrow.Author.Rules.{rules}
use Rattle.sheets.proofs.Written.{written}
use Rattle.sheets_lay.proofs.put_entry.Goals as goal

pub mark_of-m-requires : goal.mark_of-m-requires
mark_of-m-requires c = search (rules, written)

pub in_order-xs-requires : goal.in_order-xs-requires
in_order-xs-requires c = search (rules, written)

pub put_mark-a-requires : goal.put_mark-a-requires
put_mark-a-requires c = search (rules, written)

pub put_numbers-b-requires : goal.put_numbers-b-requires
put_numbers-b-requires c = search (rules, written)

pub put_tail-requires : goal.put_tail-requires
put_tail-requires c = search (rules, written)

pub shape_of-out : goal.shape_of-out
shape_of-out c = search (rules, written)

pub returns : goal.returns
returns c = search (rules, written)
