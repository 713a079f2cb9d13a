-- `values_read::head_of`: the digits that a line begins with tell a count; a count is too short for the cap to be felt. Else they are the start of its number.
use borrow.Author.Rules.{rules}
use Rattle.values.proofs.Heads.{heads}
use Rattle.values_read.proofs.head_of.Goals as goal

pub scan_at-r-requires : goal.scan_at-r-requires
scan_at-r-requires c = search (rules, heads)

pub byte_at-x-requires : goal.byte_at-x-requires
byte_at-x-requires c = search (rules, heads)

pub is_count-requires : goal.is_count-requires
is_count-requires c = search (rules, heads)

pub overflow_add-result : goal.overflow_add-result
overflow_add-result c = search (rules, heads)

pub returns-then-is_count : goal.returns-then-is_count
returns-then-is_count c = search (rules, heads)

pub read_from-requires : goal.read_from-requires
read_from-requires c = search (rules, heads)

pub returns : goal.returns
returns c = search (rules, heads)
