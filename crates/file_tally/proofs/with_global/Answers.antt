-- The defaults before the field take a column each.
use borrow.Author.Rules.{rules}
use Rattle.file_canonical.proofs.Tallies.{tallies}
use Rattle.file_tally.proofs.with_global.Goals as goal

pub skipped-k-requires : goal.skipped-k-requires
skipped-k-requires c = search (rules, tallies)

pub overflow_add-x : goal.overflow_add-x
overflow_add-x c = search (rules, tallies)

pub piece_end-e-requires : goal.piece_end-e-requires
piece_end-e-requires c = search (rules, tallies)

pub returns : goal.returns
returns c = search (rules, tallies)
