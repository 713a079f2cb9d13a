-- Blanks, the front from a buffer of its own, and the rest.
use borrow.Author.Rules.{rules}
use Rattle.records.proofs.Puts.{pieces, whole_pieces}
use Rattle.records_flow.proofs.put_piece.Goals as goal

pub slice_bounds-put_front-end : goal.slice_bounds-put_front-end
slice_bounds-put_front-end c = search (rules, pieces)

pub put_front-n-requires : goal.put_front-n-requires
put_front-n-requires c = search (rules, pieces)

pub overflow_add-n : goal.overflow_add-n
overflow_add-n c = search (rules, pieces)

pub gap_of-g-requires : goal.gap_of-g-requires
gap_of-g-requires c = search (rules, pieces)

pub put_run-q-requires : goal.put_run-q-requires
put_run-q-requires c = search (rules, pieces)

pub slice_bounds-buf-end : goal.slice_bounds-buf-end
slice_bounds-buf-end c = search (rules, pieces)

pub slice_bounds-put_all-end : goal.slice_bounds-put_all-end
slice_bounds-put_all-end c = search (rules, pieces)

pub put_all-e-requires : goal.put_all-e-requires
put_all-e-requires c = search (rules, pieces)

pub put_tail-requires : goal.put_tail-requires
put_tail-requires c = record {
  base_bound = search (rules, pieces);
  p_bound = search (rules, pieces);
  le_w = search (rules, pieces);
  w_le_line_columns = search (rules, pieces);
  writable = search (rules, pieces);
}

pub shape_of-out : goal.shape_of-out
shape_of-out c = search (rules, pieces)

pub returns : goal.returns
returns c = record { put = search (rules, whole_pieces); lower_bound = (search (rules, whole_pieces), search (rules, whole_pieces)) }
