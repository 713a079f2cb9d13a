-- `here_if`: its two tests are those of `here`, one after the other.
use borrow.Author.Rules.{rules}
use Rattle.cards.proofs.Laws.{places}
use Rattle.cards_line.proofs.here_if.Goals as goal

pub returns-then-before-eq0 : goal.returns-then-before-eq0
returns-then-before-eq0 c = search (rules, places)

pub returns-then-later-ne0 : goal.returns-then-later-ne0
returns-then-later-ne0 c = search (rules, places)

pub returns : goal.returns
returns c = search (rules, places)
