-- The parts of a piece, added up.
use borrow.Author.Rules.{rules}
use Rattle.records.proofs.Puts.{ends}
use Rattle.records_flow.proofs.piece_end.Goals as goal

pub front_len-n-requires : goal.front_len-n-requires
front_len-n-requires c = search (rules, ends)

pub overflow_add-n : goal.overflow_add-n
overflow_add-n c = search (rules, ends)

pub gap_of-g-requires : goal.gap_of-g-requires
gap_of-g-requires c = search (rules, ends)

pub copied_of-k-requires : goal.copied_of-k-requires
copied_of-k-requires c = search (rules, ends)

pub overflow_add-result : goal.overflow_add-result
overflow_add-result c = search (rules, ends)

pub overflow_add-result-2 : goal.overflow_add-result-2
overflow_add-result-2 c = search (rules, ends)

pub overflow_add-result-3 : goal.overflow_add-result-3
overflow_add-result-3 c = search (rules, ends)

pub overflow_add-result-4 : goal.overflow_add-result-4
overflow_add-result-4 c = search (rules, ends)

pub returns : goal.returns
returns c = search (rules, ends)
