use borrow.Author.Rules.{rules}
use Rattle.columns.proofs.Decimals.{columned}
use Rattle.columns_decimals.proofs.put_right.Goals as goal

pub returns-clause-wrote : goal.returns-clause-wrote
returns-clause-wrote c = search (rules, columned)
