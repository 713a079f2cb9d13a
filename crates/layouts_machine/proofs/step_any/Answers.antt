-- The state that is made of a state's fields is that state.
use borrow.Author.Rules.{rules}
use Rattle.layouts.proofs.Steps.{same_step}
use Rattle.layouts_machine.proofs.step_any.Goals as goal

pub with_left-t-requires : goal.with_left-t-requires
with_left-t-requires c = search rules

pub step_from-requires : goal.step_from-requires
step_from-requires c = search rules

pub returns : goal.returns
returns c = search (rules, same_step)
