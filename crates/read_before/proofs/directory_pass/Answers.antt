-- The first pass that refuses decides.
use borrow.Author.Rules.{rules}
use Rattle.std.proofs.lemmas.Result.{err_from_is_err_and}
use Rattle.read_passes.proofs.Whole.{directories}
use Rattle.read_before.proofs.directory_pass.Goals as goal

pub returns-in_err-entries : goal.returns-in_err-entries
returns-in_err-entries c =
    let p = err_from_is_err_and c.from_residual.result c.from_residual.ensures.1 in
    rw (p.1, p.2) (search (rules, directories, c.in_err-entries.was))

pub returns : goal.returns
returns c = search (rules, directories, c.in_ok-entries.was)
