-- Measured by its directory number, its numbers and a label of eight.
use borrow.Author.Rules.{rules}
use Rattle.read_weights.proofs.Weighing.{heads}
use Rattle.read_weights.proofs.head_len.Goals as goal

pub entry_number-number-requires : goal.entry_number-number-requires
entry_number-number-requires c = search (rules, heads)

pub entry_len-requires : goal.entry_len-requires
entry_len-requires c = search (rules, heads)

pub returns : goal.returns
returns c = search (rules, heads)
