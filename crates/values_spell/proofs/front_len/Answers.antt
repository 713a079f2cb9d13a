use borrow.Author.Rules.{rules}
use Rattle.values_spell.proofs.Lengths.{lengths}
use Rattle.values_spell.proofs.front_len.Goals as goal

pub returns-in-Default : goal.returns-in-Default
returns-in-Default c = search (rules, lengths)
