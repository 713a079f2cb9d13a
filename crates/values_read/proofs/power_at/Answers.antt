-- `values_read::power_at_lem`: by its letter, E, D or none.
use borrow.Author.Rules.{rules}
use Rattle.values.proofs.Steps.{powers}
use Rattle.values_read.proofs.power_at.Goals as goal

pub byte_at-c-requires : goal.byte_at-c-requires
byte_at-c-requires c = search (rules, powers)

pub overflow_add-i : goal.overflow_add-i
overflow_add-i c = search (rules, powers)

pub power_of-requires : goal.power_of-requires
power_of-requires c = search (rules, powers)

pub returns-then-c-eq69 : goal.returns-then-c-eq69
returns-then-c-eq69 c = search (rules, powers)

pub overflow_add-i-then-c-eq68 : goal.overflow_add-i-then-c-eq68
overflow_add-i-then-c-eq68 c = search (rules, powers)

pub power_of-requires-then-c-eq68 : goal.power_of-requires-then-c-eq68
power_of-requires-then-c-eq68 c = search (rules, powers)

pub returns-then-c-eq68 : goal.returns-then-c-eq68
returns-then-c-eq68 c = search (rules, powers)

pub returns : goal.returns
returns c = search (rules, powers)
