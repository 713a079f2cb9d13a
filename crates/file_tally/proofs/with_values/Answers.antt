-- A tally with too many lines is told by one line too many.
use borrow.Author.Rules.{rules}
use Rattle.file_canonical.proofs.Tallies.{fullness}
use Rattle.file_tally.proofs.with_values.Goals as goal

pub total_of-requires : goal.total_of-requires
total_of-requires c = search (rules, fullness)

pub returns-then-total_of-le-MOST_LINES : goal.returns-then-total_of-le-MOST_LINES
returns-then-total_of-le-MOST_LINES c = search (rules, fullness)

pub overflow_add-result : goal.overflow_add-result
overflow_add-result c = search (rules, fullness)

pub returns : goal.returns
returns c = search (rules, fullness)
