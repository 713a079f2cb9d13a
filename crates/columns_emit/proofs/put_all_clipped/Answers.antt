use borrow.Author.Rules.{rules}
use Rattle.columns.proofs.Writes.{clips}
use Rattle.columns_emit.proofs.put_all_clipped.Goals as goal

pub loop-b-preserved : goal.loop-b-preserved
loop-b-preserved c = (search rules, search (rules, clips), search (rules, clips))
