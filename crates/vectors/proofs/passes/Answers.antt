use borrow.Author.Rules.{rules}
use Rattle.vectors.proofs.Passing.{passing}
use Rattle.vectors.proofs.passes.Goals as goal

pub returns-then-not-gives-clause-value : goal.returns-then-not-gives-clause-value
returns-then-not-gives-clause-value c = search (rules, passing)

pub returns-clause-value : goal.returns-clause-value
returns-clause-value c = search (rules, passing)
