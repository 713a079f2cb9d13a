-- Eight digits for the status, plain decimal for the others.
use borrow.Author.Rules.{rules}
use Rattle.sheets.proofs.Written.{written}
use Rattle.sheets_lay.proofs.put_num.Goals as goal

pub overflow_cast-x : goal.overflow_cast-x
overflow_cast-x c = search (rules, written)

pub put_right-requires : goal.put_right-requires
put_right-requires c = search (rules, written)

pub shape_of-out-then-left-eq3 : goal.shape_of-out-then-left-eq3
shape_of-out-then-left-eq3 c = search (rules, written)

pub returns-then-left-eq3 : goal.returns-then-left-eq3
returns-then-left-eq3 c = search (rules, written)

pub put_signed-requires : goal.put_signed-requires
put_signed-requires c = search (rules, written)

pub shape_of-out : goal.shape_of-out
shape_of-out c = search (rules, written)

pub returns : goal.returns
returns c = search (rules, written)
