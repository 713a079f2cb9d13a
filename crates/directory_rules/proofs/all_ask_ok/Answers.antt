use borrow.Author.Rules.{rules}
use Rattle.directory.proofs.Asked.{resting}
use Rattle.directory_rules.proofs.all_ask_ok.Goals as goal

pub loop-j-init : goal.loop-j-init
loop-j-init g c = search (rules, resting)

pub returns-then-not-asks_ok : goal.returns-then-not-asks_ok
returns-then-not-asks_ok g c = search (rules, resting)

pub loop-j-preserved : goal.loop-j-preserved
loop-j-preserved g c = search (rules, resting)

pub returns : goal.returns
returns g c = search (rules, resting)
