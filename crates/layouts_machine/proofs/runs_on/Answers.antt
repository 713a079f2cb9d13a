-- The three tests, in their order.
use borrow.Author.Rules.{rules}
use Rattle.layouts.proofs.Steps.{running}
use Rattle.layouts_machine.proofs.runs_on.Goals as goal

pub returns-then-s-le1 : goal.returns-then-s-le1
returns-then-s-le1 c = search (rules, running)

pub reals_at-requires : goal.reals_at-requires
reals_at-requires c = search rules

pub numeric_in-requires : goal.numeric_in-requires
numeric_in-requires c = search rules

pub returns-then-reals_at : goal.returns-then-reals_at
returns-then-reals_at c = search (rules, running)

pub returns : goal.returns
returns c = search (rules, running)
