-- One byte more, and the last.
use lib.ListN.{length-set}
use borrow.Author.Rules.{rules}
use Rattle.columns.proofs.Writes.{copies}
use Rattle.columns_emit.proofs.put_all.Goals as goal

pub loop-i-preserved : goal.loop-i-preserved
loop-i-preserved c = (simp length-set (search rules), search (rules, copies))
