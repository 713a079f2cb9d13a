-- The type, the values, the end of the record, the ends of its lines.
use borrow.Author.Rules.{rules}
use Rattle.file_parameters.proofs.Blocked.{blocking, block_count_lem, blocked}
use Rattle.file_parameters.proofs.put_block.Goals as goal

pub put_piece-p-requires : goal.put_piece-p-requires
put_piece-p-requires c = search (rules, blocking)

pub put_values-f-requires : goal.put_values-f-requires
put_values-f-requires c = record {
  at_in_bounds = search (rules, blocking);
  base_bound = search (rules, blocking);
  at_bound = search (rules, blocking);
  unbroken = search (rules, blocking);
}

pub close-lines-requires : goal.close-lines-requires
close-lines-requires c = record {
  base_bound = search (rules, blocking);
  le_p = search (rules, blocking);
  p_bound = search (rules, blocking);
  le_w = search (rules, blocking);
  w_le_line_columns = search (rules, blocking);
}

pub overflow_add-base : goal.overflow_add-base
overflow_add-base c = search (rules, blocking)

pub put_tails-requires : goal.put_tails-requires
put_tails-requires c = search (rules, blocking)

pub shape_of-out : goal.shape_of-out
shape_of-out c = search (rules, blocking)

pub returns : goal.returns
returns c = record {
  out_after = search (rules, blocked);
  lines_value = search (rules, block_count_lem);
  next_value = search rules;
  at_le_next = search rules;
}
