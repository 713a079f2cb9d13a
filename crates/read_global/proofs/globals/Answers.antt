-- The opening tells the delimiters, and whether values follow.
use borrow.Author.Rules.{rules}
use Rattle.std.proofs.lemmas.Result.{err_from_is_err_and}
use Rattle.read_global.proofs.GlobalAnswers.{answering}
use Rattle.read_global.proofs.globals.Goals as goal

pub returns-in_default : goal.returns-in_default
returns-in_default c = search (rules, answering)

pub returns-in_err-no_stray : goal.returns-in_err-no_stray
returns-in_err-no_stray c =
    let p = err_from_is_err_and c.from_residual.result c.from_residual.ensures.1 in
    rw (p.1, p.2) (search (rules, answering, c.in_err-no_stray.was))

pub returns-then-last : goal.returns-then-last
returns-then-last c = search (rules, answering, c.in_ok-no_stray.was)

pub returns-in_err-values_pass : goal.returns-in_err-values_pass
returns-in_err-values_pass c =
    let p = err_from_is_err_and c.from_residual-in_err-values_pass.result c.from_residual-in_err-values_pass.ensures.1 in
    rw (p.1, p.2) (search (rules, answering, c.in_err-values_pass.was))

pub returns : goal.returns
returns c = search (rules, answering, c.in_ok-values_pass.was)
