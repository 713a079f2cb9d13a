use borrow.Author.Rules.{rules}
use Rattle.vectors.proofs.Passing.{scoring}
use Rattle.vectors.proofs.score.Goals as goal

pub returns-then-passes-clause-value : goal.returns-then-passes-clause-value
returns-then-passes-clause-value g c = search (rules, scoring)

pub returns-clause-value : goal.returns-clause-value
returns-clause-value g c = search (rules, scoring)
