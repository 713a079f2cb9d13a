-- By what was read back.
use borrow.Author.Rules.{rules}
use Rattle.sheets.proofs.Machine.{values}
use Rattle.sheets_read.proofs.value_said.Goals as goal

pub enum_known-v : goal.enum_known-v
enum_known-v c = search (rules, values)

pub enum_told-1 : goal.enum_told-1
enum_told-1 c = search (rules, values)

pub returns-in-Some : goal.returns-in-Some
returns-in-Some c = search (rules, values)

pub returns-in-None : goal.returns-in-None
returns-in-None c = search (rules, values)
