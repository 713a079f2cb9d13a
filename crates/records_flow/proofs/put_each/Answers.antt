use borrow.Author.Rules.{rules}
use Rattle.records.proofs.Puts.{puts}
use Rattle.records_flow.proofs.put_each.Goals as goal

pub loop-b-preserved : goal.loop-b-preserved
loop-b-preserved c = search (rules, puts)
