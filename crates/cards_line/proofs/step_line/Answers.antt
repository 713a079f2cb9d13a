-- `step_line`: bytes, place and number are looked at in the order of `step_of`, in the file where the line stands.
use borrow.Author.Rules.{rules}
use Rattle.cards.proofs.Laws.{steps}
use Rattle.cards_line.proofs.step_line.Goals as goal

pub returns-then-not-line_ok : goal.returns-then-not-line_ok
returns-then-not-line_ok c = search (rules, steps)

pub returns-in_err-found : goal.returns-in_err-found
returns-in_err-found c = search (rules, steps)

pub returns-then-holds : goal.returns-then-holds
returns-then-holds c = search (rules, steps)

pub returns : goal.returns
returns c = search (rules, steps)
