use borrow.Author.Rules.{rules}
use Rattle.columns.proofs.Decimals.{decimals}
use Rattle.columns_decimals.proofs.put_counted.Goals as goal

pub overflow_add-end : goal.overflow_add-end
overflow_add-end c = search (rules, decimals)

pub put_inside-requires : goal.put_inside-requires
put_inside-requires c = search (rules, decimals)

pub shape_of-out-then-end-out : goal.shape_of-out-then-end-out
shape_of-out-then-end-out c = search (rules, decimals)

pub returns-then-end-out : goal.returns-then-end-out
returns-then-end-out c = search (rules, decimals)

pub returns-then-out-at : goal.returns-then-out-at
returns-then-out-at c = search (rules, decimals)

pub put_clipped-requires : goal.put_clipped-requires
put_clipped-requires c = search (rules, decimals)

pub shape_of-out : goal.shape_of-out
shape_of-out c = search (rules, decimals)

pub returns : goal.returns
returns c = search (rules, decimals)
