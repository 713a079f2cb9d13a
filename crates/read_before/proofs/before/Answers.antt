-- The lines go first, and their counts hold of the file.
use borrow.Author.Rules.{rules}
use Rattle.std.proofs.lemmas.Result.{err_from_is_err_and}
use Rattle.read_passes.proofs.Whole.{wholes}
use Rattle.read_before.proofs.before.Goals as goal

pub returns-in_err-c : goal.returns-in_err-c
returns-in_err-c c =
    let p = err_from_is_err_and c.from_residual.result c.from_residual.ensures.1 in
    rw (p.1, p.2) (search (rules, wholes, c.in_err-c.was))

pub returns : goal.returns
returns c = search (rules, wholes, c.in_ok-c.was)
