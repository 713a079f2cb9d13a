use borrow.Author.Rules.{rules}
use Rattle.print.proofs.Started.{started}
use Rattle.print_starts.proofs.put_starts.Goals as goal

pub loop-i-preserved : goal.loop-i-preserved
loop-i-preserved c = search (rules, started)
