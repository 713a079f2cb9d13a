-- The trimmed text is a part of the file.
use borrow.Author.Rules.{rules}
use Rattle.print.proofs.Started.{started}
use Rattle.print_starts.proofs.put_start_line.Goals as goal

pub overflow_mul-from : goal.overflow_mul-from
overflow_mul-from c = search (rules, started)

pub kept-n-requires : goal.kept-n-requires
kept-n-requires c = search (rules, started)

pub overflow_add-end : goal.overflow_add-end
overflow_add-end c = search (rules, started)

pub slice_bounds-put_start-count : goal.slice_bounds-put_start-count
slice_bounds-put_start-count c = search (rules, started)

pub slice_bounds-put_start-start : goal.slice_bounds-put_start-start
slice_bounds-put_start-start c = search (rules, started)

pub slice_bounds-put_start-end : goal.slice_bounds-put_start-end
slice_bounds-put_start-end c = search (rules, started)

pub put_start-requires : goal.put_start-requires
put_start-requires c = search (rules, started)

pub shape_of-out : goal.shape_of-out
shape_of-out c = search (rules, started)

pub returns : goal.returns
returns c = search (rules, started)
