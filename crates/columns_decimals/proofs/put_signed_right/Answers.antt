use borrow.Author.Rules.{rules}
use Rattle.columns.proofs.Decimals.{columned}
use Rattle.columns_decimals.proofs.put_signed_right.Goals as goal

pub returns-then-neg-clause-wrote : goal.returns-then-neg-clause-wrote
returns-then-neg-clause-wrote c = search (rules, columned)

pub returns-clause-wrote : goal.returns-clause-wrote
returns-clause-wrote c = search (rules, columned)

pub returns-clause-lower_bound : goal.returns-clause-lower_bound
returns-clause-lower_bound c = search (rules, columned)
