-- Status and subscript.
use borrow.Author.Rules.{rules}
use Rattle.directory.proofs.Slots.{slotted}
use Rattle.directory_read.proofs.is_plain.Goals as goal

pub returns-then-n-eq-STATUS : goal.returns-then-n-eq-STATUS
returns-then-n-eq-STATUS c = search (rules, slotted)

pub returns-else-n-eq-STATUS : goal.returns-else-n-eq-STATUS
returns-else-n-eq-STATUS c = search (rules, slotted)
