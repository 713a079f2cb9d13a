use borrow.Author.Rules.{rules}
use Rattle.values.proofs.Spells.{spells}
use Rattle.values_spell.proofs.put_front.Goals as goal

pub returns-in-Default-clause-wrote : goal.returns-in-Default-clause-wrote
returns-in-Default-clause-wrote c = search (rules, spells)
