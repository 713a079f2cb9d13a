use borrow.Author.Rules.{rules}
use Rattle.directory_read.proofs.Spelt.{entries}
use Rattle.directory_read.proofs.entry_at.Goals as goal

pub loop-n-preserved : goal.loop-n-preserved
loop-n-preserved c = search (rules, entries)
