use borrow.Author.Rules.{rules}
use Rattle.print.proofs.Texts.{texts}
use Rattle.print.proofs.characters.put_text.Goals as goal

pub loop-i-init : goal.loop-i-init
loop-i-init c = search (rules, texts)

pub loop-i-preserved : goal.loop-i-preserved
loop-i-preserved c = search (rules, texts)
