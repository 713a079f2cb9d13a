use Rattle.layouts.proofs.Steps.{end_go}
use Rattle.layouts_machine.proofs.end.Goals as goal

pub loop-preserved : goal.loop-preserved
loop-preserved c =
    end_go _ _ _ _ _ c.loop.invariant c.loop-test.true c.look-p.ensures c.rests_in.ensures _ _ _ c.if-rests_in.false c.with_left-last.ensures
    c.step_any.ensures c.in-Some.is
