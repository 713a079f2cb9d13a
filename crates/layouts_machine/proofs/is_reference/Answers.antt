-- The bits are right for each place.
use borrow.Author.Rules.{rules}
use Rattle.layouts.proofs.Tables.{references_are}
use Rattle.layouts_machine.proofs.is_reference.Goals as goal

pub told_by-requires : goal.told_by-requires
told_by-requires c = search rules

pub returns : goal.returns
returns c = search (rules, references_are)
