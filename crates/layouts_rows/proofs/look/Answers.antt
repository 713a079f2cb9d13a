-- The letter's place is the table's.
use borrow.Author.Rules.{rules}
use Rattle.layouts.proofs.Tables.{looked}
use Rattle.layouts_rows.proofs.look.Goals as goal

pub letter_at-requires : goal.letter_at-requires
letter_at-requires c = search rules

pub shape-requires : goal.shape-requires
shape-requires c = search rules

pub returns : goal.returns
returns c = search (rules, looked)
