-- One store, or none past the end.
use borrow.Author.Rules.{rules}
use Rattle.records.proofs.Puts.{puts}
use Rattle.records_flow.proofs.put_char.Goals as goal

pub overflow_add-next : goal.overflow_add-next
overflow_add-next c = search (rules, puts)

pub index_of-i-requires : goal.index_of-i-requires
index_of-i-requires c = search (rules, puts)

pub bounds-out-i : goal.bounds-out-i
bounds-out-i c = search (rules, puts)

pub shape_of-out : goal.shape_of-out
shape_of-out c = search (rules, puts)

pub returns-then-i-out : goal.returns-then-i-out
returns-then-i-out c = search (rules, puts)

pub returns-else-i-out : goal.returns-else-i-out
returns-else-i-out c = search (rules, puts)
