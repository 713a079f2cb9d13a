-- On one line the run stands side by side; else it goes one by one; none is nothing.
use borrow.Author.Rules.{rules}
use Rattle.records.proofs.Puts.{puts}
use Rattle.records_flow.proofs.put_run.Goals as goal

pub returns-then-count-eq0 : goal.returns-then-count-eq0
returns-then-count-eq0 c = search (rules, puts)

pub column_of-j-requires : goal.column_of-j-requires
column_of-j-requires c = search (rules, puts)

pub overflow_add-j : goal.overflow_add-j
overflow_add-j c = search (rules, puts)

pub put_times-requires : goal.put_times-requires
put_times-requires c = search (rules, puts)

pub shape_of-out-then-w-j : goal.shape_of-out-then-w-j
shape_of-out-then-w-j c = search (rules, puts)

pub returns-then-w-j : goal.returns-then-w-j
returns-then-w-j c = search (rules, puts)

pub overflow_add-next : goal.overflow_add-next
overflow_add-next c = search (rules, puts)

pub index_of-at-requires : goal.index_of-at-requires
index_of-at-requires c = search (rules, puts)

pub put_run-requires : goal.put_run-requires
put_run-requires c = search (rules, puts)

pub shape_of-out : goal.shape_of-out
shape_of-out c = search (rules, puts)

pub returns : goal.returns
returns c = search (rules, puts)
