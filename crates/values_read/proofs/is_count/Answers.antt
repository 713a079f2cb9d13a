-- `values_read::is_count`: by H, the number of digits and their worth, as the definition goes.
use borrow.Author.Rules.{rules}
use Rattle.values.proofs.Heads.{heads}
use Rattle.values_read.proofs.is_count.Goals as goal

pub returns-then-x-ne72 : goal.returns-then-x-ne72
returns-then-x-ne72 c = search (rules, heads)

pub returns-then-n-gt3 : goal.returns-then-n-gt3
returns-then-n-gt3 c = search (rules, heads)

pub returns : goal.returns
returns c = search (rules, heads)
