use borrow.Author.Rules.{rules}
use Rattle.vectors.proofs.Rooms.{parts}
use Rattle.vectors.proofs.Passing.{holding}
use Rattle.vectors.proofs.vector.holds.Goals as goal

pub returns-then-out-n : goal.returns-then-out-n
returns-then-out-n c = search (rules, parts, holding)

pub returns-then-not-same : goal.returns-then-not-same
returns-then-not-same c = search (rules, parts, holding)

pub returns : goal.returns
returns c = search (rules, parts, holding)
