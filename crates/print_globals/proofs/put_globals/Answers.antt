use borrow.Author.Rules.{rules}
use Rattle.print.proofs.Given.{globals}
use Rattle.print_globals.proofs.put_globals.Goals as goal

pub loop-n-preserved : goal.loop-n-preserved
loop-n-preserved c = search (rules, globals)

pub returns-clause-wrote : goal.returns-clause-wrote
returns-clause-wrote c = search (rules, globals)
