-- `closes_at`: the D count is even, and the T line's five parts stand where `totals` has them.
use borrow.Author.Rules.{rules}
use Rattle.cards.proofs.Laws.{ends}
use Rattle.cards_pass.proofs.terminate.closes_at.Goals as goal

pub overflow_mul-at : goal.overflow_mul-at
overflow_mul-at c = search (rules, ends)

pub returns-then-c-ne0 : goal.returns-then-c-ne0
returns-then-c-ne0 c = search (rules, ends)

pub tells_at-s-requires : goal.tells_at-s-requires
tells_at-s-requires c = search (rules, ends)

pub overflow_add-at : goal.overflow_add-at
overflow_add-at c = search (rules, ends)

pub tells_at-g-requires : goal.tells_at-g-requires
tells_at-g-requires c = search (rules, ends)

pub overflow_add-at-2 : goal.overflow_add-at-2
overflow_add-at-2 c = search (rules, ends)

pub tells_at-d-requires : goal.tells_at-d-requires
tells_at-d-requires c = search (rules, ends)

pub overflow_add-at-3 : goal.overflow_add-at-3
overflow_add-at-3 c = search (rules, ends)

pub tells_at-p-requires : goal.tells_at-p-requires
tells_at-p-requires c = search (rules, ends)

pub overflow_add-at-4 : goal.overflow_add-at-4
overflow_add-at-4 c = search (rules, ends)

pub overflow_add-at-5 : goal.overflow_add-at-5
overflow_add-at-5 c = search (rules, ends)

pub is_blank-b-requires : goal.is_blank-b-requires
is_blank-b-requires c = search (rules, ends)

pub all_five-requires : goal.all_five-requires
all_five-requires c = search (rules, ends)

pub returns : goal.returns
returns c = search (rules, ends)
