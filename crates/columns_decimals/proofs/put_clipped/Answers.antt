use borrow.Author.Rules.{rules}
use Rattle.columns.proofs.Decimals.{decimals}
use Rattle.columns_decimals.proofs.put_clipped.Goals as goal

pub loop-x-init : goal.loop-x-init
loop-x-init c = search (rules, decimals)

pub overflow_sub-i : goal.overflow_sub-i
overflow_sub-i c = search (rules, decimals)

pub digit-requires : goal.digit-requires
digit-requires c = search (rules, decimals)

pub put-requires : goal.put-requires
put-requires c = search (rules, decimals)

pub loop-x-smaller : goal.loop-x-smaller
loop-x-smaller c = search (rules, decimals)

pub loop-x-preserved : goal.loop-x-preserved
loop-x-preserved c = search (rules, decimals)

pub digit-requires-2 : goal.digit-requires-2
digit-requires-2 c = search (rules, decimals)

pub put-requires-2 : goal.put-requires-2
put-requires-2 c = search (rules, decimals)

pub shape_of-out : goal.shape_of-out
shape_of-out c = search (rules, decimals)

pub returns : goal.returns
returns c = search (rules, decimals)
