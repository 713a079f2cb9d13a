-- A place of which there is none is passed.
use borrow.Author.Rules.{rules}
use Rattle.layouts.proofs.Moves.{moves}
use Rattle.layouts_machine.proofs.settle_of.Goals as goal

pub beyond_of-requires : goal.beyond_of-requires
beyond_of-requires c = search (rules, moves)

pub returns-then-s-eq0 : goal.returns-then-s-eq0
returns-then-s-eq0 c = search (rules, moves)

pub returns : goal.returns
returns c = search (rules, moves)
