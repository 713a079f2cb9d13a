use borrow.Author.Rules.{rules}
use Rattle.std.proofs.lemmas.Result.{err_from_is_err_and}
use Rattle.records.proofs.Steps.{steps, check_wrong}
use Rattle.records_read.proofs.check_from.Goals as goal

pub returns-in_err-value-clause-value : goal.returns-in_err-value-clause-value
returns-in_err-value-clause-value c =
    let p = err_from_is_err_and c.from_residual.result c.from_residual.ensures.1 in
    rw (p.1, p.2) (check_wrong c.requires.stands c.requires.c_nonzero c.requires.d_nonzero c.loop-value.q c.loop-value.n c.loop-value.kept c.loop-value.invariant.1 c.value_at.ensures.value c.loop-value.invariant.0 c.in_err-value.was)

pub returns-then-last-clause-value : goal.returns-then-last-clause-value
returns-then-last-clause-value c = search (rules, steps, c.in_ok-value.was)

pub loop-value-preserved : goal.loop-value-preserved
loop-value-preserved c = search (rules, steps, c.in_ok-value.was)
