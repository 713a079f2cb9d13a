use borrow.Author.Rules.{rules}
use Rattle.references.proofs.Classes.{classes}
use Rattle.references.proofs.fits.Goals as goal

pub returns-then-want-eq-ANY : goal.returns-then-want-eq-ANY
returns-then-want-eq-ANY c = search (rules, classes)

pub returns : goal.returns
returns c = search (rules, classes)
