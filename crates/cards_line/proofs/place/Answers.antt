-- `place`: each letter is one arm of `place_of`, and a count below the most lines has room for one more.
use borrow.Author.Rules.{rules}
use Rattle.cards.proofs.Laws.{places}
use Rattle.cards_line.proofs.place.Goals as goal

pub overflow_add-t : goal.overflow_add-t
overflow_add-t c = search (rules, places)

pub counted-requires : goal.counted-requires
counted-requires c = search (rules, places)

pub overflow_add-t-then-letter-eq84 : goal.overflow_add-t-then-letter-eq84
overflow_add-t-then-letter-eq84 c = search (rules, places)

pub here_if-requires : goal.here_if-requires
here_if-requires c = search (rules, places)

pub returns-then-letter-eq84 : goal.returns-then-letter-eq84
returns-then-letter-eq84 c = search (rules, places)

pub returns-then-left-eq0 : goal.returns-then-left-eq0
returns-then-left-eq0 c = search (rules, places)

pub overflow_add-g : goal.overflow_add-g
overflow_add-g c = search (rules, places)

pub overflow_add-g-then-letter-eq83 : goal.overflow_add-g-then-letter-eq83
overflow_add-g-then-letter-eq83 c = search (rules, places)

pub overflow_add-g-then-letter-eq83-2 : goal.overflow_add-g-then-letter-eq83-2
overflow_add-g-then-letter-eq83-2 c = search (rules, places)

pub overflow_add-s : goal.overflow_add-s
overflow_add-s c = search (rules, places)

pub counted-requires-then-letter-eq83 : goal.counted-requires-then-letter-eq83
counted-requires-then-letter-eq83 c = search (rules, places)

pub overflow_add-s-then-letter-eq83 : goal.overflow_add-s-then-letter-eq83
overflow_add-s-then-letter-eq83 c = search (rules, places)

pub here_if-requires-then-letter-eq83 : goal.here_if-requires-then-letter-eq83
here_if-requires-then-letter-eq83 c = search (rules, places)

pub returns-then-letter-eq83 : goal.returns-then-letter-eq83
returns-then-letter-eq83 c = search (rules, places)

pub overflow_add-d : goal.overflow_add-d
overflow_add-d c = search (rules, places)

pub overflow_add-d-then-letter-eq71 : goal.overflow_add-d-then-letter-eq71
overflow_add-d-then-letter-eq71 c = search (rules, places)

pub overflow_add-g-then-letter-eq71 : goal.overflow_add-g-then-letter-eq71
overflow_add-g-then-letter-eq71 c = search (rules, places)

pub counted-requires-then-letter-eq71 : goal.counted-requires-then-letter-eq71
counted-requires-then-letter-eq71 c = search (rules, places)

pub overflow_add-g-then-letter-eq71-2 : goal.overflow_add-g-then-letter-eq71-2
overflow_add-g-then-letter-eq71-2 c = search (rules, places)

pub here_if-requires-then-letter-eq71 : goal.here_if-requires-then-letter-eq71
here_if-requires-then-letter-eq71 c = search (rules, places)

pub returns-then-letter-eq71 : goal.returns-then-letter-eq71
returns-then-letter-eq71 c = search (rules, places)

pub overflow_add-p : goal.overflow_add-p
overflow_add-p c = search (rules, places)

pub overflow_add-d-then-letter-eq68 : goal.overflow_add-d-then-letter-eq68
overflow_add-d-then-letter-eq68 c = search (rules, places)

pub counted-requires-then-letter-eq68 : goal.counted-requires-then-letter-eq68
counted-requires-then-letter-eq68 c = search (rules, places)

pub overflow_add-d-then-letter-eq68-2 : goal.overflow_add-d-then-letter-eq68-2
overflow_add-d-then-letter-eq68-2 c = search (rules, places)

pub here_if-requires-then-letter-eq68 : goal.here_if-requires-then-letter-eq68
here_if-requires-then-letter-eq68 c = search (rules, places)

pub returns-then-letter-eq68 : goal.returns-then-letter-eq68
returns-then-letter-eq68 c = search (rules, places)

pub overflow_add-p-then-letter-eq80 : goal.overflow_add-p-then-letter-eq80
overflow_add-p-then-letter-eq80 c = search (rules, places)

pub counted-requires-then-letter-eq80 : goal.counted-requires-then-letter-eq80
counted-requires-then-letter-eq80 c = search (rules, places)

pub overflow_add-p-then-letter-eq80-2 : goal.overflow_add-p-then-letter-eq80-2
overflow_add-p-then-letter-eq80-2 c = search (rules, places)

pub here_if-requires-then-letter-eq80 : goal.here_if-requires-then-letter-eq80
here_if-requires-then-letter-eq80 c = search (rules, places)

pub returns-then-letter-eq80 : goal.returns-then-letter-eq80
returns-then-letter-eq80 c = search (rules, places)

pub returns : goal.returns
returns c = search (rules, places)
