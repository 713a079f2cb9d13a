-- `values_read::sign_len`: a sign is one character, and anything else is none.
use borrow.Author.Rules.{rules}
use Rattle.values.proofs.Steps.{parts}
use Rattle.values_read.proofs.sign_len.Goals as goal

pub returns-then-c-eq43 : goal.returns-then-c-eq43
returns-then-c-eq43 c = search (rules, parts)

pub returns-then-c-eq45 : goal.returns-then-c-eq45
returns-then-c-eq45 c = search (rules, parts)

pub returns-else-c-eq45 : goal.returns-else-c-eq45
returns-else-c-eq45 c = search (rules, parts)
