-- `values_digits::run_of`: one more digit changes the run as the definition has it; the cap is in v already.
use borrow.Author.Rules.{rules}
use Rattle.values.proofs.Steps.{parts}
use Rattle.values_digits.proofs.run_of.Goals as goal

pub overflow_add-result : goal.overflow_add-result
overflow_add-result c = search (rules, parts)

pub overflow_add-result-then-c-eq48 : goal.overflow_add-result-then-c-eq48
overflow_add-result-then-c-eq48 c = search (rules, parts)

pub overflow_add-result-else-c-eq48 : goal.overflow_add-result-else-c-eq48
overflow_add-result-else-c-eq48 c = search (rules, parts)

pub returns-then-c-eq48 : goal.returns-then-c-eq48
returns-then-c-eq48 c = search (rules, parts)

pub returns-else-c-eq48 : goal.returns-else-c-eq48
returns-else-c-eq48 c = search (rules, parts)
