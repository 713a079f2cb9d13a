-- P lines first: they tell how many there are.
use borrow.Author.Rules.{rules}
use Rattle.file_canonical.proofs.Rowed.{entering}
use Rattle.file_canonical.proofs.entries.put_entry.Goals as goal

pub entry_number-number-requires : goal.entry_number-number-requires
entry_number-number-requires c = search (rules, entering)

pub overflow_add-end : goal.overflow_add-end
overflow_add-end c = search (rules, entering)

pub put_block-b-requires : goal.put_block-b-requires
put_block-b-requires c = search (rules, entering)

pub overflow_cast-lines : goal.overflow_cast-lines
overflow_cast-lines c = search (rules, entering)

pub overflow_sub-label : goal.overflow_sub-label
overflow_sub-label c = search (rules, entering)

pub slice_bounds-put_entry_lines-count : goal.slice_bounds-put_entry_lines-count
slice_bounds-put_entry_lines-count c = search (rules, entering)

pub slice_bounds-put_entry_lines-start : goal.slice_bounds-put_entry_lines-start
slice_bounds-put_entry_lines-start c = search (rules, entering)

pub slice_bounds-put_entry_lines-end : goal.slice_bounds-put_entry_lines-end
slice_bounds-put_entry_lines-end c = search (rules, entering)

pub put_entry_lines-d-requires : goal.put_entry_lines-d-requires
put_entry_lines-d-requires c = search (rules, entering)

pub overflow_mul-result : goal.overflow_mul-result
overflow_mul-result c = search (rules, entering)

pub overflow_add-result : goal.overflow_add-result
overflow_add-result c = search (rules, entering)

pub overflow_add-result-2 : goal.overflow_add-result-2
overflow_add-result-2 c = search (rules, entering)

pub shape_of-out : goal.shape_of-out
shape_of-out c = search (rules, entering)

pub returns : goal.returns
returns c = search (rules, entering)
