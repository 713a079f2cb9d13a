-- Where the value ends.
use borrow.Author.Rules.{rules}
use Rattle.file_canonical.proofs.Tallies.{tallies}
use Rattle.file_tally.proofs.with_value.Goals as goal

pub piece_end-e-requires : goal.piece_end-e-requires
piece_end-e-requires c = search (rules, tallies)

pub returns : goal.returns
returns c = search (rules, tallies)
