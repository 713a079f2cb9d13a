-- By what was read back, and whether it is a default.
use borrow.Author.Rules.{rules}
use Rattle.sheets.proofs.Machine.{globals}
use Rattle.sheets_read.proofs.global_of.Goals as goal

pub enum_known-v : goal.enum_known-v
enum_known-v c = search (rules, globals)

pub is_missing-requires : goal.is_missing-requires
is_missing-requires c = search (rules, globals)

pub returns-then-is_missing : goal.returns-then-is_missing
returns-then-is_missing c = search (rules, globals)

pub enum_told-1 : goal.enum_told-1
enum_told-1 c = search (rules, globals)

pub returns-else-is_missing : goal.returns-else-is_missing
returns-else-is_missing c = search (rules, globals)

pub returns-in-None : goal.returns-in-None
returns-in-None c = search (rules, globals)
