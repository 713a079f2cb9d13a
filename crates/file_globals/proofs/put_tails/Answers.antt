use borrow.Author.Rules.{rules}
use Rattle.file_blocks.proofs.Tailed.{tailing}
use Rattle.file_globals.proofs.put_tails.Goals as goal

pub loop-i-preserved : goal.loop-i-preserved
loop-i-preserved c = search (rules, tailing)

pub returns : goal.returns
returns c = search (rules, tailing)
