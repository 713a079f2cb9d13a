-- It goes on at the next place.
use borrow.Author.Rules.{rules}
use Rattle.layouts.proofs.Moves.{moves}
use Rattle.layouts_machine.proofs.follow_to.Goals as goal

pub overflow_add-r : goal.overflow_add-r
overflow_add-r c = search (rules, moves)

pub returns : goal.returns
returns c = search (rules, moves)
