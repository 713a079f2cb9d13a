use borrow.Author.Rules.{rules}
use Rattle.values_spell.proofs.Lengths.{lengths}
use Rattle.values_spell.proofs.real_len.Goals as goal

pub returns : goal.returns
returns c = search (rules, lengths)
