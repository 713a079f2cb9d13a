use borrow.Author.Rules.{rules}
use Rattle.file_canonical.proofs.Rowed.{rowing}
use Rattle.file_canonical.proofs.entries.put_rows.Goals as goal

pub returns : goal.returns
returns c = search (rules, rowing)
