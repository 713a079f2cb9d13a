use borrow.Author.Rules.{rules}
use Rattle.vectors.proofs.Rooms.{looking}
use Rattle.vectors.proofs.room.untouched.Goals as goal

pub loop-i-preserved : goal.loop-i-preserved
loop-i-preserved c = search (rules, looking)

pub returns-then-out-i : goal.returns-then-out-i
returns-then-out-i c = search (rules, looking)

pub returns : goal.returns
returns c = search (rules, looking)
