use borrow.Author.Rules.{rules}
use Rattle.read_passes.proofs.GlobalText.{texts}
use Rattle.read_global.proofs.fields_fit.Goals as goal

pub loop-k-init : goal.loop-k-init
loop-k-init c = search (rules, texts)

pub returns-then-not-global_fits : goal.returns-then-not-global_fits
returns-then-not-global_fits c = search (rules, texts)

pub loop-k-preserved : goal.loop-k-preserved
loop-k-preserved c = search (rules, texts)

pub returns : goal.returns
returns c = search (rules, texts)
