-- Where the place goes on, with all of the next one left.
use borrow.Author.Rules.{rules}
use Rattle.layouts.proofs.Moves.{moves}
use Rattle.layouts_machine.proofs.beyond_of.Goals as goal

pub look-p-requires : goal.look-p-requires
look-p-requires c = search (rules, moves)

pub follow_to-requires : goal.follow_to-requires
follow_to-requires c = search (rules, moves)

pub enter_at-requires : goal.enter_at-requires
enter_at-requires c = search (rules, moves)

pub returns : goal.returns
returns c = search (rules, moves)
