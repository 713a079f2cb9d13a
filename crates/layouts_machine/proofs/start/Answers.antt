-- The first place of the row, with all of it left.
use borrow.Author.Rules.{rules}
use Rattle.layouts.proofs.Steps.{started}
use Rattle.layouts_machine.proofs.start.Goals as goal

pub bit_of-requires : goal.bit_of-requires
bit_of-requires c = search rules

pub start_of-i-requires : goal.start_of-i-requires
start_of-i-requires c = search rules

pub enter_at-requires : goal.enter_at-requires
enter_at-requires c = search rules

pub returns : goal.returns
returns c = search (rules, started)
