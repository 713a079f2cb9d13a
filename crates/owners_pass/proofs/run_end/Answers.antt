use borrow.Author.Rules.{rules}
use Rattle.owners.proofs.Laws.{firsts}
use Rattle.owners_pass.proofs.run_end.Goals as goal

pub returns-then-ne : goal.returns-then-ne
returns-then-ne c = search (rules, firsts)

pub loop-k-preserved : goal.loop-k-preserved
loop-k-preserved c = search (rules, firsts)

pub returns : goal.returns
returns c = search (rules, firsts)
