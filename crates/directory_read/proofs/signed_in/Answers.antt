-- The slot is read where it stands in the file.
use borrow.Author.Rules.{rules}
use Rattle.directory.proofs.Slots.{slotted}
use Rattle.directory_read.proofs.signed_in.Goals as goal

pub start_of-at-requires : goal.start_of-at-requires
start_of-at-requires c = search (rules, slotted)

pub signed_at-requires : goal.signed_at-requires
signed_at-requires c = search (rules, slotted)

pub returns : goal.returns
returns c = search (rules, slotted)
