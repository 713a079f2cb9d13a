-- The mark, a tab, and the front of the value.
use borrow.Author.Rules.{rules}
use Rattle.sheets.proofs.Written.{heads}
use Rattle.sheets_lay.proofs.put_value_head.Goals as goal

pub value_mark-m-requires : goal.value_mark-m-requires
value_mark-m-requires c = search (rules, heads)

pub put_mark-a-requires : goal.put_mark-a-requires
put_mark-a-requires c = search (rules, heads)

pub put_front-requires : goal.put_front-requires
put_front-requires c = search (rules, heads)

pub shape_of-out : goal.shape_of-out
shape_of-out c = search (rules, heads)

pub returns : goal.returns
returns c = search (rules, heads)
