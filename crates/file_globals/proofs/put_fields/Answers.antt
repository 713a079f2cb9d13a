use borrow.Author.Rules.{rules}
use Rattle.file_globals.proofs.Fielded.{looping, field-behind, field-more}
use Rattle.file_globals.proofs.put_fields.Goals as goal

pub loop-g-init : goal.loop-g-init
loop-g-init c = search (rules, looping)

pub field_at-requires : goal.field_at-requires
field_at-requires c = search (rules, looping)

pub returns-in_default-clause-put : goal.returns-in_default-clause-put
returns-in_default-clause-put c = search (rules, looping)

pub slice_bounds-put_field-count : goal.slice_bounds-put_field-count
slice_bounds-put_field-count c = search (rules, looping)

pub slice_bounds-put_field-start : goal.slice_bounds-put_field-start
slice_bounds-put_field-start c = search (rules, looping)

pub slice_bounds-put_field-end : goal.slice_bounds-put_field-end
slice_bounds-put_field-end c = search (rules, looping)

pub put_field-end-requires : goal.put_field-end-requires
put_field-end-requires c = record {
  base_bound = search (rules, looping);
  p_bound = search (rules, looping);
  number_le_last_field = search (rules, looping);
  writable = search (rules, looping);
}

pub overflow_add-next : goal.overflow_add-next
overflow_add-next c = search (rules, looping)

pub overflow_cast-n : goal.overflow_cast-n
overflow_cast-n c = search (rules, looping)

pub overflow_add-n : goal.overflow_add-n
overflow_add-n c = search (rules, looping)

pub loop-g-smaller : goal.loop-g-smaller
loop-g-smaller c = search (rules, looping)

pub loop-g-preserved : goal.loop-g-preserved
loop-g-preserved c =
    (search (rules, looping), search (rules, looping), search (rules, looping), search (rules, field-behind), search (rules, field-more))
