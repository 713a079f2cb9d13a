use borrow.Author.Rules.{rules}
use Rattle.read_passes.proofs.Referring.{turns}
use Rattle.std.proofs.lemmas.Result.{err_from_is_err_and}
use Rattle.read_directory.proofs.entries.Goals as goal

pub loop-i-init : goal.loop-i-init
loop-i-init c = search (rules, turns)

pub returns-in_err-kept : goal.returns-in_err-kept
returns-in_err-kept c =
    let p = err_from_is_err_and c.from_residual.result c.from_residual.ensures.1 in
    rw (p.1, p.2) (search (rules, turns, c.in_err-kept.was))

pub loop-i-preserved : goal.loop-i-preserved
loop-i-preserved c = search (rules, turns, c.in_ok-kept.was)

pub returns : goal.returns
returns c = search (rules, turns)
