-- The label is a part of the file.
use borrow.Author.Rules.{rules}
use Rattle.print_sheet.proofs.Rowed.{rowed}
use Rattle.print_sheet.proofs.rows.put_entry_line.Goals as goal

pub known-e-requires : goal.known-e-requires
known-e-requires c = search (rules, rowed)

pub label_at-from-requires : goal.label_at-from-requires
label_at-from-requires c = search (rules, rowed)

pub overflow_add-end : goal.overflow_add-end
overflow_add-end c = search (rules, rowed)

pub slice_bounds-put_entry-count : goal.slice_bounds-put_entry-count
slice_bounds-put_entry-count c = search (rules, rowed)

pub slice_bounds-put_entry-start : goal.slice_bounds-put_entry-start
slice_bounds-put_entry-start c = search (rules, rowed)

pub slice_bounds-put_entry-end : goal.slice_bounds-put_entry-end
slice_bounds-put_entry-end c = search (rules, rowed)

pub put_entry-requires : goal.put_entry-requires
put_entry-requires c = search (rules, rowed)

pub shape_of-out : goal.shape_of-out
shape_of-out c = search (rules, rowed)

pub returns : goal.returns
returns c = search (rules, rowed)
