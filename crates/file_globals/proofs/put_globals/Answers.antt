-- The opening, the fields, the end of the record, the ends of its lines.
use borrow.Author.Rules.{rules}
use Rattle.file_globals.proofs.Opened.{opening-lines, record_count, opened}
use Rattle.file_globals.proofs.put_globals.Goals as goal

pub put_all-p-requires : goal.put_all-p-requires
put_all-p-requires c = search (rules, opening-lines)

pub put_fields-f-requires : goal.put_fields-f-requires
put_fields-f-requires c = record {
  at_in_bounds = search (rules, opening-lines);
  base_bound = search (rules, opening-lines);
  at_bound = search (rules, opening-lines);
}

pub close-lines-requires : goal.close-lines-requires
close-lines-requires c = record {
  base_bound = search (rules, opening-lines);
  le_p = search (rules, opening-lines);
  p_bound = search (rules, opening-lines);
  le_w = search (rules, opening-lines);
  w_le_line_columns = search (rules, opening-lines);
}

pub overflow_add-base : goal.overflow_add-base
overflow_add-base c = search (rules, opening-lines)

pub put_tails-requires : goal.put_tails-requires
put_tails-requires c = search (rules, opening-lines)

pub shape_of-out : goal.shape_of-out
shape_of-out c = search (rules, opening-lines)

pub returns : goal.returns
returns c = record {
  out_after = search (rules, opened);
  lines_value = search (rules, record_count);
  next_value = search rules;
  at_le_next = search rules;
}
