use borrow.Author.Rules.{rules}
use Rattle.values.proofs.Spells.{spells}
use Rattle.values_spell.proofs.put_whole.Goals as goal

pub returns-clause-wrote : goal.returns-clause-wrote
returns-clause-wrote c = search (rules, spells)
