use borrow.Author.Rules.{rules}
use Rattle.vectors.proofs.Passing.{running}
use Rattle.vectors.proofs.vector.run.Goals as goal

pub returns-then-op-eq-READ-clause-value : goal.returns-then-op-eq-READ-clause-value
returns-then-op-eq-READ-clause-value c = search (rules, running)

pub returns-then-op-eq-READ-clause-out_after : goal.returns-then-op-eq-READ-clause-out_after
returns-then-op-eq-READ-clause-out_after c = search (rules, running)

pub returns-clause-value : goal.returns-clause-value
returns-clause-value c = search (rules, running)

pub returns-clause-out_after : goal.returns-clause-out_after
returns-clause-out_after c = search (rules, running)
