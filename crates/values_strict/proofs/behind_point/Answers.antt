-- `values_strict::behind_point`: nothing, or the letter of an exponent.
use borrow.Author.Rules.{rules}
use Rattle.values.proofs.Backs.{behinds}
use Rattle.values_strict.proofs.behind_point.Goals as goal

pub as_real-requires : goal.as_real-requires
as_real-requires c = search (rules, behinds)

pub returns-then-i-l : goal.returns-then-i-l
returns-then-i-l c = search (rules, behinds)

pub bounds-l-i : goal.bounds-l-i
bounds-l-i c = search (rules, behinds)

pub is_letter-requires : goal.is_letter-requires
is_letter-requires c = search (rules, behinds)

pub overflow_add-i : goal.overflow_add-i
overflow_add-i c = search (rules, behinds)

pub behind_letter-requires : goal.behind_letter-requires
behind_letter-requires c = search (rules, behinds)

pub returns-then-is_letter : goal.returns-then-is_letter
returns-then-is_letter c = search (rules, behinds)

pub returns : goal.returns
returns c = search (rules, behinds)
