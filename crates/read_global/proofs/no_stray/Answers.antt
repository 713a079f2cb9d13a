use borrow.Author.Rules.{rules}
use Rattle.read_passes.proofs.GlobalText.{texts}
use Rattle.read_global.proofs.no_stray.Goals as goal

pub returns-then-q-lines : goal.returns-then-q-lines
returns-then-q-lines c = search (rules, texts)

pub returns : goal.returns
returns c = search (rules, texts)
