-- So many digits fit as columns are left beside the sign.
use borrow.Author.Rules.{rules}
use Rattle.directory.proofs.Ranges.{numbered}
use Rattle.directory_rules.proofs.is_narrow.Goals as goal

pub returns-then-x : goal.returns-then-x
returns-then-x c = search (rules, numbered)

pub returns : goal.returns
returns c = search (rules, numbered)
