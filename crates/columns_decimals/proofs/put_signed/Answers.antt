use borrow.Author.Rules.{rules}
use Rattle.columns.proofs.Decimals.{columned}
use Rattle.columns_decimals.proofs.put_signed.Goals as goal

pub overflow_cast-size : goal.overflow_cast-size
overflow_cast-size c = search (rules, columned)

pub put-next-requires : goal.put-next-requires
put-next-requires c = search (rules, columned)

pub put_decimal-requires : goal.put_decimal-requires
put_decimal-requires c = search (rules, columned)

pub shape_of-out-then-neg : goal.shape_of-out-then-neg
shape_of-out-then-neg c = search (rules, columned)

pub returns-then-neg : goal.returns-then-neg
returns-then-neg c = search (rules, columned)

pub put_decimal-requires-2 : goal.put_decimal-requires-2
put_decimal-requires-2 c = search (rules, columned)

pub shape_of-out : goal.shape_of-out
shape_of-out c = search (rules, columned)

pub returns : goal.returns
returns c = search (rules, columned)
