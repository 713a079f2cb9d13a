-- The list goes first, then what is asked before, and the last pass counts on that.
use borrow.Author.Rules.{rules}
use Rattle.std.proofs.lemmas.Result.{err_from_is_err_and}
use Rattle.read_weights.proofs.Weights.{weighs}
use Rattle.read_check.proofs.weigh.Goals as goal

pub returns-then-not-is_list : goal.returns-then-not-is_list
returns-then-not-is_list c = search (rules, weighs)

pub returns-in_err-told : goal.returns-in_err-told
returns-in_err-told c =
    let p = err_from_is_err_and c.from_residual.result c.from_residual.ensures.1 in
    rw (p.1, p.2) (search (rules, weighs, c.in_err-told.was))

pub last_pass-requires : goal.last_pass-requires
last_pass-requires c = search (rules, weighs, c.in_ok-told.was)

pub returns-in_err-rows : goal.returns-in_err-rows
returns-in_err-rows c =
    let p = err_from_is_err_and c.from_residual-in_err-rows.result c.from_residual-in_err-rows.ensures.1 in
    rw (p.1, p.2) (search (rules, weighs, c.in_ok-told.was, c.in_err-rows.was))

pub returns : goal.returns
returns c = search (rules, weighs, c.in_ok-told.was, c.in_ok-rows.was)
