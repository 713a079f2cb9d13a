-- The place that is looked up says how many there are.
use borrow.Author.Rules.{rules}
use Rattle.layouts.proofs.Moves.{moves}
use Rattle.layouts_machine.proofs.enter_at.Goals as goal

pub look-p-requires : goal.look-p-requires
look-p-requires c = search (rules, moves)

pub times_in-requires : goal.times_in-requires
times_in-requires c = search (rules, moves)

pub returns : goal.returns
returns c = search (rules, moves)
