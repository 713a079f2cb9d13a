use borrow.Author.Rules.{rules}
use Rattle.vectors.proofs.Rooms.{parts}
use Rattle.vectors.proofs.Passing.{room}
use Rattle.vectors.proofs.vector.wants_room.Goals as goal

pub returns-then-room-eq0-clause-value : goal.returns-then-room-eq0-clause-value
returns-then-room-eq0-clause-value c = search (rules, parts, room)

pub returns-then-out-room-clause-value : goal.returns-then-out-room-clause-value
returns-then-out-room-clause-value c = search (rules, parts, room)

pub returns-then-not-is_answer-clause-value : goal.returns-then-not-is_answer-clause-value
returns-then-not-is_answer-clause-value c = search (rules, parts, room)

pub returns-clause-value : goal.returns-clause-value
returns-clause-value c = search (rules, parts, room)
