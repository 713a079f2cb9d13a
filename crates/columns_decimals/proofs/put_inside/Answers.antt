use native.Mathlib.Omega.{arith}
use lib.ListN.{length-set}
use borrow.Author.Rules.{rules}
use Rattle.columns.proofs.Decimals.{decimals}
use Rattle.columns_decimals.proofs.put_inside.Goals as goal

pub loop-x-init : goal.loop-x-init
loop-x-init c = search (rules, decimals)

pub overflow_sub-i : goal.overflow_sub-i
overflow_sub-i c = search (rules, decimals)

pub digit-requires : goal.digit-requires
digit-requires c = search (rules, decimals)

pub bounds-out-i : goal.bounds-out-i
bounds-out-i c = search (rules, decimals)

pub digit-requires-in-loop-x : goal.digit-requires-in-loop-x
digit-requires-in-loop-x c = search (rules, decimals)

pub overflow_add-out : goal.overflow_add-out
overflow_add-out c = search (rules, decimals)

pub bounds-out-i-in-loop-x : goal.bounds-out-i-in-loop-x
bounds-out-i-in-loop-x c = search (rules, decimals)

pub loop-x-smaller : goal.loop-x-smaller
loop-x-smaller c = search (rules, decimals)

pub loop-x-preserved : goal.loop-x-preserved
loop-x-preserved c =
    (search (rules, decimals), simp length-set (omega arith), simp length-set (omega arith), search (rules, decimals))

pub digit-requires-then-x-lt10 : goal.digit-requires-then-x-lt10
digit-requires-then-x-lt10 c = search (rules, decimals)

pub bounds-out-at : goal.bounds-out-at
bounds-out-at c = search (rules, decimals)

pub shape_of-out-then-x-lt10 : goal.shape_of-out-then-x-lt10
shape_of-out-then-x-lt10 c = search (rules, decimals)

pub returns-then-x-lt10 : goal.returns-then-x-lt10
returns-then-x-lt10 c = search (rules, decimals)

pub digit-requires-2 : goal.digit-requires-2
digit-requires-2 c = search (rules, decimals)

pub bounds-out-at-2 : goal.bounds-out-at-2
bounds-out-at-2 c = search (rules, decimals)

pub digit-requires-3 : goal.digit-requires-3
digit-requires-3 c = search (rules, decimals)

pub overflow_add-out-2 : goal.overflow_add-out-2
overflow_add-out-2 c = search (rules, decimals)

pub bounds-out-at-3 : goal.bounds-out-at-3
bounds-out-at-3 c = search (rules, decimals)

pub shape_of-out : goal.shape_of-out
shape_of-out c = search (rules, decimals)

pub returns : goal.returns
returns c = search (rules, decimals)
