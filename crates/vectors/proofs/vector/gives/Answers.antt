use borrow.Author.Rules.{rules}
use Rattle.vectors.proofs.Passing.{giving}
use Rattle.vectors.proofs.vector.gives.Goals as goal

pub returns-then-not-is_answer-clause-value : goal.returns-then-not-is_answer-clause-value
returns-then-not-is_answer-clause-value c = search (rules, giving)

pub returns-clause-value : goal.returns-clause-value
returns-clause-value c = search (rules, giving)
