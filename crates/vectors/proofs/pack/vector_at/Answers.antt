use borrow.Author.Rules.{rules}
use Rattle.vectors.proofs.Packs.{vectors}
use Rattle.vectors.proofs.pack.vector_at.Goals as goal

pub returns-then-n-at-lt-HEAD-clause-value : goal.returns-then-n-at-lt-HEAD-clause-value
returns-then-n-at-lt-HEAD-clause-value c = search (rules, vectors)

pub returns-then-n-end-clause-value : goal.returns-then-n-end-clause-value
returns-then-n-end-clause-value c = search (rules, vectors)

pub returns-clause-value : goal.returns-clause-value
returns-clause-value c = search (rules, vectors)
