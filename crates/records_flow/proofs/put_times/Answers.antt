use borrow.Author.Rules.{rules}
use Rattle.records.proofs.Puts.{puts}
use Rattle.records_flow.proofs.put_times.Goals as goal

pub loop-preserved : goal.loop-preserved
loop-preserved c = search (rules, puts)
