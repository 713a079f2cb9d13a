-- The table holds the slot of each number, by computation from the list of slots.
use borrow.Author.Rules.{rules}
use Rattle.directory.proofs.Slots.{slotted}
use Rattle.directory.proofs.lines.place_of.Goals as goal

pub offset_bounds-n : goal.offset_bounds-n
offset_bounds-n c = search (rules, slotted)

pub bounds-n : goal.bounds-n
bounds-n c = search (rules, slotted)

pub returns : goal.returns
returns c = search (rules, slotted)
