use borrow.Author.Rules.{rules}
use Rattle.owners.proofs.Laws.{firsts}
use Rattle.owners_pass.proofs.first_line.Goals as goal

pub returns-then-not-line_owned : goal.returns-then-not-line_owned
returns-then-not-line_owned c = search (rules, firsts)

pub loop-k-preserved : goal.loop-k-preserved
loop-k-preserved c = search (rules, firsts)

pub returns : goal.returns
returns c = search (rules, firsts)
