-- The number is read in its slot, with a sign or without.
use borrow.Author.Rules.{rules}
use Rattle.directory.proofs.Slots.{slotted}
use Rattle.directory_read.proofs.number_in.Goals as goal

pub place_of-j-requires : goal.place_of-j-requires
place_of-j-requires c = search (rules, slotted)

pub is_plain-requires : goal.is_plain-requires
is_plain-requires c = search (rules, slotted)

pub plain_in-requires : goal.plain_in-requires
plain_in-requires c = search (rules, slotted)

pub returns-then-is_plain : goal.returns-then-is_plain
returns-then-is_plain c = search (rules, slotted)

pub signed_in-requires : goal.signed_in-requires
signed_in-requires c = search (rules, slotted)

pub returns : goal.returns
returns c = search (rules, slotted)
