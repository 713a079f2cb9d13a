-- The total tells whether a file may have them.
use borrow.Author.Rules.{rules}
use Rattle.file_canonical.proofs.Tallies.{fullness}
use Rattle.file_tally.proofs.lines_of.Goals as goal

pub total_of-requires : goal.total_of-requires
total_of-requires c = search (rules, fullness)

pub counts_in-requires : goal.counts_in-requires
counts_in-requires c = search (rules, fullness)

pub returns-then-total_of-le-MOST_LINES : goal.returns-then-total_of-le-MOST_LINES
returns-then-total_of-le-MOST_LINES c = search (rules, fullness)

pub returns : goal.returns
returns c = search (rules, fullness)
