-- Below 64 the first word tells, below 128 the second.
use borrow.Author.Rules.{rules}
use Rattle.layouts.proofs.Tables.{bits}
use Rattle.layouts_machine.proofs.told_by.Goals as goal

pub overflow_shr-result : goal.overflow_shr-result
overflow_shr-result c = search (rules, bits)

pub overflow_shr-result-then-at-lt128 : goal.overflow_shr-result-then-at-lt128
overflow_shr-result-then-at-lt128 c = search (rules, bits)

pub returns-then-at-lt64 : goal.returns-then-at-lt64
returns-then-at-lt64 c = search (rules, bits)

pub returns-then-at-lt128 : goal.returns-then-at-lt128
returns-then-at-lt128 c = search (rules, bits)

pub returns-else-at-lt128 : goal.returns-else-at-lt128
returns-else-at-lt128 c = search (rules, bits)
