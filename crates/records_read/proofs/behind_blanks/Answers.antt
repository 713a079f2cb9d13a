use Rattle.records_read.proofs.Laws.{skip_all}
use Rattle.records_read.proofs.behind_blanks.Goals as goal

pub returns-clause-value : goal.returns-clause-value
returns-clause-value c = skip_all c.requires.stands c.loop-q.q _ c.loop-q.invariant c.loop-q-test.false (c.loop-q.auto.q-end c.requires.p_bound)
