use Rattle.std.proofs.Common.{◌≡◌, ◌∙◌, ap, rules}
use Rattle.directory.specs.Fields.{in_order}
use Rattle.directory.specs.Rules.{narrow, ranges_ok}
use Rattle.directory_rules.proofs.ranges_ok.Goals as goal

pub returns-then-status_ok : goal.returns-then-status_ok
unfolding ranges_ok
returns-then-status_ok c =
    let e : c.all_narrow.result ≡ narrow (in_order c.args.x) = c.all_narrow.ensures ∙ ap narrow c.in_order.ensures in
    search rules
