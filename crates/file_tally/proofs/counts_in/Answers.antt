-- Each count is one that a file may have.
use borrow.Author.Rules.{rules}
use Rattle.file_canonical.proofs.Tallies.{tallies}
use Rattle.file_tally.proofs.counts_in.Goals as goal

pub line_count-g-requires : goal.line_count-g-requires
line_count-g-requires c = search (rules, tallies)

pub line_count-p-requires : goal.line_count-p-requires
line_count-p-requires c = search (rules, tallies)

pub overflow_cast-result : goal.overflow_cast-result
overflow_cast-result c = search (rules, tallies)

pub overflow_cast-result-2 : goal.overflow_cast-result-2
overflow_cast-result-2 c = search (rules, tallies)

pub overflow_cast-result-3 : goal.overflow_cast-result-3
overflow_cast-result-3 c = search (rules, tallies)

pub overflow_add-result : goal.overflow_add-result
overflow_add-result c = search (rules, tallies)

pub overflow_cast-result-4 : goal.overflow_cast-result-4
overflow_cast-result-4 c = search (rules, tallies)

pub returns : goal.returns
returns c = search (rules, tallies)
