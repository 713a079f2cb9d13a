use borrow.Author.Rules.{rules}
use Rattle.desk_table.proofs.Slots.{slotted}
use Rattle.desk_table.proofs.slot.record_at.Goals as goal

pub returns-in-Some : goal.returns-in-Some
returns-in-Some c = search (rules, slotted)

pub returns-in-None : goal.returns-in-None
returns-in-None c = search (rules, slotted)
