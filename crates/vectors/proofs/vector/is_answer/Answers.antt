use borrow.Author.Rules.{rules}
use Rattle.vectors.proofs.Passing.{answers}
use Rattle.vectors.proofs.vector.is_answer.Goals as goal

pub returns-then-a-number : goal.returns-then-a-number
returns-then-a-number c = search (rules, answers)

pub returns-then-a-place : goal.returns-then-a-place
returns-then-a-place c = search (rules, answers)

pub returns : goal.returns
returns c = search (rules, answers)
