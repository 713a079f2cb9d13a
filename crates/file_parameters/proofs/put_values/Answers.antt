use borrow.Author.Rules.{rules}
use borrow.Author.Tests.{not-false}
use Rattle.file_parameters.proofs.Valued.{looping, value-behind, value_unbroken, value-more}
use Rattle.file_parameters.proofs.put_values.Goals as goal

pub loop-base-init : goal.loop-base-init
loop-base-init c = search (rules, looping)

pub end_of-stop-requires : goal.end_of-stop-requires
end_of-stop-requires c = search (rules, looping)

pub is_value-requires : goal.is_value-requires
is_value-requires c = search (rules, looping)

pub shape_of-out-then-not-is_value : goal.shape_of-out-then-not-is_value
shape_of-out-then-not-is_value c = search (rules, looping)

pub returns-then-not-is_value : goal.returns-then-not-is_value
returns-then-not-is_value c = search (rules, looping)

pub overflow_add-from : goal.overflow_add-from
overflow_add-from c = search (rules, looping)

pub slice_bounds-put_spelled-count : goal.slice_bounds-put_spelled-count
slice_bounds-put_spelled-count c = search (rules, looping)

pub slice_bounds-put_spelled-start : goal.slice_bounds-put_spelled-start
slice_bounds-put_spelled-start c = search (rules, looping)

pub slice_bounds-put_spelled-end : goal.slice_bounds-put_spelled-end
slice_bounds-put_spelled-end c = search (rules, looping)

pub put_spelled-end-requires : goal.put_spelled-end-requires
put_spelled-end-requires c = search (rules, looping)

pub overflow_add-next : goal.overflow_add-next
overflow_add-next c = search (rules, looping)

pub loop-base-smaller : goal.loop-base-smaller
loop-base-smaller c = search (rules, looping)

pub loop-base-preserved : goal.loop-base-preserved
loop-base-preserved c = (
  search (rules, looping),
  search (rules, looping),
  search (rules, looping),
  search (rules, value-behind),
  search (rules, value_unbroken),
  search (rules, not-false, value-more),
)
