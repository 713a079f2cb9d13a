use borrow.Author.Rules.{rules}
use Rattle.values.proofs.Spells.{spells}
use Rattle.values_spell.proofs.put_exponent.Goals as goal

pub returns-then-e-eq0-clause-wrote : goal.returns-then-e-eq0-clause-wrote
returns-then-e-eq0-clause-wrote c = search (rules, spells)
