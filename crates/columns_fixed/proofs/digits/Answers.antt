use borrow.Author.Rules.{rules}
use Rattle.columns.proofs.Fixed.{reads}
use Rattle.columns_fixed.proofs.digits.Goals as goal

pub loop-b-preserved : goal.loop-b-preserved
loop-b-preserved c = search (rules, reads)
