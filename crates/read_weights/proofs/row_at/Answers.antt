-- The entry line and the lines of what its record carries, added up.
use borrow.Author.Rules.{rules}
use Rattle.read_weights.proofs.Weighing.{parts}
use Rattle.read_weights.proofs.row_at.Goals as goal

pub head_len-head-requires : goal.head_len-head-requires
head_len-head-requires c = search (rules, parts)

pub record_answer-weighed-requires : goal.record_answer-weighed-requires
record_answer-weighed-requires c = record {
  ready = search (rules, parts);
  parameter_nonzero = search (rules, parts);
  closing_nonzero = search (rules, parts);
  le_pointer = search (rules, parts);
  lines_bound = search (rules, parts);
}

pub overflow_add-head : goal.overflow_add-head
overflow_add-head c = search (rules, parts)

pub overflow_add-k : goal.overflow_add-k
overflow_add-k c = search (rules, parts)

pub rows_of-requires : goal.rows_of-requires
rows_of-requires c = search (rules, parts)

pub returns : goal.returns
returns c = search (rules, parts)
