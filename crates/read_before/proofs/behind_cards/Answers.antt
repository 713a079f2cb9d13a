-- G goes before the directory, and neither tells other counts or delimiters.
use borrow.Author.Rules.{rules}
use Rattle.std.proofs.lemmas.Result.{err_from_is_err_and}
use Rattle.read_passes.proofs.Whole.{wholes}
use Rattle.read_before.proofs.behind_cards.Goals as goal

pub returns-in_err-global : goal.returns-in_err-global
returns-in_err-global c =
    let p = err_from_is_err_and c.from_residual.result c.from_residual.ensures.1 in
    rw (p.1, p.2) (search (rules, wholes, c.in_err-global.was))

pub returns-in_err-directory_pass : goal.returns-in_err-directory_pass
returns-in_err-directory_pass c =
    let p = err_from_is_err_and c.from_residual-in_err-directory_pass.result c.from_residual-in_err-directory_pass.ensures.1 in
    rw (p.1, p.2) (search (rules, wholes, c.in_err-directory_pass.was))

pub returns : goal.returns
returns c = search (rules, wholes, c.in_ok-global.was, c.in_ok-directory_pass.was)
