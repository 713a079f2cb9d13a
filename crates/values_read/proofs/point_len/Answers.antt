-- `values_read::point_len`: a point is one character, and anything else is none.
use borrow.Author.Rules.{rules}
use Rattle.values.proofs.Steps.{parts}
use Rattle.values_read.proofs.point_len.Goals as goal

pub returns-then-c-eq46 : goal.returns-then-c-eq46
returns-then-c-eq46 c = search (rules, parts)

pub returns-else-c-eq46 : goal.returns-else-c-eq46
returns-else-c-eq46 c = search (rules, parts)
