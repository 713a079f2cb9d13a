-- `values_limits::whole_of`: by its limit, and 0 has no sign.
use borrow.Author.Rules.{rules}
use Rattle.values.proofs.Steps.{parts}
use Rattle.values_limits.proofs.whole_of.Goals as goal

pub returns-then-v-gt-MOST_INTEGER_WIDE : goal.returns-then-v-gt-MOST_INTEGER_WIDE
returns-then-v-gt-MOST_INTEGER_WIDE c = search (rules, parts)

pub returns-then-v-eq0 : goal.returns-then-v-eq0
returns-then-v-eq0 c = search (rules, parts)

pub overflow_cast-result : goal.overflow_cast-result
overflow_cast-result c = search (rules, parts)

pub returns : goal.returns
returns c = search (rules, parts)
