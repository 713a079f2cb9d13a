-- The same answer without the bytes.
use borrow.Author.Rules.{rules}
use Rattle.std.proofs.lemmas.Result.{err_from_is_err_and}
use Rattle.read_weights.proofs.Weights.{weights}
use Rattle.read_check.proofs.check.Goals as goal

pub returns-in_err-weight : goal.returns-in_err-weight
returns-in_err-weight c =
    let p = err_from_is_err_and c.from_residual.result c.from_residual.ensures.1 in
    rw (p.1, p.2) (search (rules, weights, c.in_err-weight.was))

pub returns : goal.returns
returns c = search (rules, weights, c.in_ok-weight.was)
