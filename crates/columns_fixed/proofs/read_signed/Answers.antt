use borrow.Author.Rules.{rules}
use Rattle.columns.proofs.Fixed.{signs}
use Rattle.columns_fixed.proofs.read_signed.Goals as goal

pub returns-clause-value : goal.returns-clause-value
returns-clause-value c = search (rules, signs)
