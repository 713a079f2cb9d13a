-- `length_ok`: the three tests of `length_ok`, one after the other.
use borrow.Author.Rules.{rules}
use Rattle.cards.proofs.Laws.{lengths}
use Rattle.cards.proofs.length_ok.Goals as goal

pub returns-then-len-ne0 : goal.returns-then-len-ne0
returns-then-len-ne0 c = search (rules, lengths)

pub returns-then-n-lt1 : goal.returns-then-n-lt1
returns-then-n-lt1 c = search (rules, lengths)

pub returns : goal.returns
returns c = search (rules, lengths)
