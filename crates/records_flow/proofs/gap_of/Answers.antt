-- The two cases of the gap.
use borrow.Author.Rules.{rules}
use Rattle.records.proofs.Puts.{puts}
use Rattle.records_flow.proofs.gap_of.Goals as goal

pub column_of-j-requires : goal.column_of-j-requires
column_of-j-requires c = search (rules, puts)

pub overflow_add-j : goal.overflow_add-j
overflow_add-j c = search (rules, puts)

pub overflow_sub-result : goal.overflow_sub-result
overflow_sub-result c = search (rules, puts)

pub returns-then-j-n : goal.returns-then-j-n
returns-then-j-n c = search (rules, puts)

pub returns-else-j-n : goal.returns-else-j-n
returns-else-j-n c = search (rules, puts)
