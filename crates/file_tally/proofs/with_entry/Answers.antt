-- The lines of the entry before, and where the type ends.
use borrow.Author.Rules.{rules}
use Rattle.file_canonical.proofs.Tallies.{tallies}
use Rattle.file_tally.proofs.with_entry.Goals as goal

pub line_count-k-requires : goal.line_count-k-requires
line_count-k-requires c = search (rules, tallies)

pub piece_end-e-requires : goal.piece_end-e-requires
piece_end-e-requires c = search (rules, tallies)

pub overflow_add-result : goal.overflow_add-result
overflow_add-result c = search (rules, tallies)

pub overflow_add-result-2 : goal.overflow_add-result-2
overflow_add-result-2 c = search (rules, tallies)

pub returns : goal.returns
returns c = search (rules, tallies)
