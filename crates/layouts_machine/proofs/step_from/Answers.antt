-- What the place makes of the value, and then onward, but from the rest; past the table all is rest, so the place has room to move.
use Rattle.std.proofs.Common.{◌∙◌}
use Rattle.layouts.proofs.Steps.{room-here, step_bad, step_rest, step_go}
use Rattle.layouts_machine.proofs.step_from.Goals as goal

pub onward_of-requires : goal.onward_of-requires
onward_of-requires c = room-here _ _ _ _ _ c.look-p.ensures c.takes_in.ensures _ _ c.in_ok-t.was c.rests_in.ensures c.if-rests_in.false

pub returns-then-rests_in : goal.returns-then-rests_in
returns-then-rests_in c = step_rest _ _ _ _ _ c.look-p.ensures c.takes_in.ensures _ _ c.in_ok-t.was c.rests_in.ensures c.if-rests_in.true

pub returns-else-rests_in : goal.returns-else-rests_in
returns-else-rests_in c = step_go _ _ _ _ _ c.look-p.ensures c.takes_in.ensures _ _ _ c.in_ok-t.was c.rests_in.ensures c.if-rests_in.false c.onward_of.ensures

pub returns-in_err-t : goal.returns-in_err-t
returns-in_err-t c = c.from_residual.ensures ∙ step_bad _ _ _ _ _ c.look-p.ensures c.takes_in.ensures c.in_err-t.was
