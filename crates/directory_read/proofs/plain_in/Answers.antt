-- The slot is read where it stands in the file, as a field without a sign.
use borrow.Author.Rules.{rules}
use Rattle.directory.proofs.Slots.{slotted}
use Rattle.directory_read.proofs.plain_in.Goals as goal

pub start_of-at-requires : goal.start_of-at-requires
start_of-at-requires c = search (rules, slotted)

pub overflow_add-at : goal.overflow_add-at
overflow_add-at c = search (rules, slotted)

pub read_field-requires : goal.read_field-requires
read_field-requires c = search (rules, slotted)

pub plain-requires : goal.plain-requires
plain-requires c = search (rules, slotted)

pub returns : goal.returns
returns c = search (rules, slotted)
