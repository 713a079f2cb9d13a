-- `tells_at`: the letter, then the seven columns behind it.
use borrow.Author.Rules.{rules}
use Rattle.cards.proofs.Laws.{ends}
use Rattle.cards_pass.proofs.terminate.tells_at.Goals as goal

pub bounds-s-at : goal.bounds-s-at
bounds-s-at c = search (rules, ends)

pub returns-then-s-at : goal.returns-then-s-at
returns-then-s-at c = search (rules, ends)

pub overflow_add-at : goal.overflow_add-at
overflow_add-at c = search (rules, ends)

pub overflow_add-at-2 : goal.overflow_add-at-2
overflow_add-at-2 c = search (rules, ends)

pub holds-requires : goal.holds-requires
holds-requires c = search (rules, ends)

pub returns : goal.returns
returns c = search (rules, ends)
