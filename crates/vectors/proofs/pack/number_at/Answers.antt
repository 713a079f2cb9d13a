use borrow.Author.Rules.{rules}
use Rattle.vectors.proofs.Packs.{numbers}
use Rattle.vectors.proofs.pack.number_at.Goals as goal

pub returns : goal.returns
returns c = search (rules, numbers)
