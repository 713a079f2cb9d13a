-- Each entity in turn, its bytes added up; then the Z line.
use borrow.Author.Rules.{rules}
use Rattle.std.proofs.lemmas.Result.{err_from_is_err_and}
use Rattle.read_weights.proofs.Weights.{lasts}
use Rattle.read_check.proofs.last_pass.Goals as goal

pub loop-i-init : goal.loop-i-init
loop-i-init c = search (rules, lasts)

pub returns-in_err-length-clause-value : goal.returns-in_err-length-clause-value
returns-in_err-length-clause-value c =
    let p = err_from_is_err_and c.from_residual.result c.from_residual.ensures.1 in
    rw (p.1, p.2) (search (rules, lasts, c.in_err-length.was))

pub overflow_add-length : goal.overflow_add-length
overflow_add-length c = search (rules, lasts, c.in_ok-length.was)

pub loop-i-preserved : goal.loop-i-preserved
loop-i-preserved c = search (rules, lasts, c.in_ok-length.was)

pub overflow_add-result : goal.overflow_add-result
overflow_add-result c = search (rules, lasts)

pub returns : goal.returns
returns c = search (rules, lasts)
