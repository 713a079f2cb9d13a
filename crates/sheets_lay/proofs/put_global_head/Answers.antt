-- G, tab, number, tab, and the front of the value.
use borrow.Author.Rules.{rules}
use Rattle.sheets.proofs.Written.{heads}
use Rattle.sheets_lay.proofs.put_global_head.Goals as goal

pub put_mark-a-requires : goal.put_mark-a-requires
put_mark-a-requires c = search (rules, heads)

pub put_decimal-b-requires : goal.put_decimal-b-requires
put_decimal-b-requires c = search (rules, heads)

pub put-c-requires : goal.put-c-requires
put-c-requires c = search (rules, heads)

pub put_front-requires : goal.put_front-requires
put_front-requires c = search (rules, heads)

pub shape_of-out : goal.shape_of-out
shape_of-out c = search (rules, heads)

pub returns : goal.returns
returns c = search (rules, heads)
