use borrow.Author.Rules.{rules}
use Rattle.print.proofs.Valued.{owed}
use Rattle.print_values.proofs.put_owed.Goals as goal

pub loop-preserved : goal.loop-preserved
loop-preserved c = search (rules, owed)

pub returns : goal.returns
returns c = search (rules, owed)
