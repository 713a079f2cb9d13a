-- `values_strict::behind_letter`: the exponent is read, and ends with the text.
use borrow.Author.Rules.{rules}
use Rattle.values.proofs.Backs.{behinds}
use Rattle.values_strict.proofs.behind_letter.Goals as goal

pub byte_at-eneg-requires : goal.byte_at-eneg-requires
byte_at-eneg-requires c = search (rules, behinds)

pub minus_len-requires : goal.minus_len-requires
minus_len-requires c = search (rules, behinds)

pub overflow_add-k : goal.overflow_add-k
overflow_add-k c = search (rules, behinds)

pub decimal_at-x-requires : goal.decimal_at-x-requires
decimal_at-x-requires c = search (rules, behinds)

pub returns-then-x-k : goal.returns-then-x-k
returns-then-x-k c = search (rules, behinds)

pub returns-then-x-l : goal.returns-then-x-l
returns-then-x-l c = search (rules, behinds)

pub is_spelt-requires : goal.is_spelt-requires
is_spelt-requires c = search (rules, behinds)

pub as_real-requires : goal.as_real-requires
as_real-requires c = search (rules, behinds)

pub returns-then-is_spelt : goal.returns-then-is_spelt
returns-then-is_spelt c = search (rules, behinds)

pub returns : goal.returns
returns c = search (rules, behinds)
