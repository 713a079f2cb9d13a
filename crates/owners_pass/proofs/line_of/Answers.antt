-- `line_of`: by the three cases of what was found.
use borrow.Author.Rules.{rules}
use Rattle.owners.proofs.Laws.{found}
use Rattle.owners_pass.proofs.line_of.Goals as goal

pub enum_told-1 : goal.enum_told-1
enum_told-1 c = search (rules, found)

pub enum_known-found : goal.enum_known-found
enum_known-found c = search (rules, found)

pub wide-requires : goal.wide-requires
wide-requires c = search (rules, found)

pub wide-requires-in-Entry : goal.wide-requires-in-Entry
wide-requires-in-Entry c = search (rules, found)

pub overflow_add-result : goal.overflow_add-result
overflow_add-result c = search (rules, found)

pub wide-requires-in-Entry-2 : goal.wide-requires-in-Entry-2
wide-requires-in-Entry-2 c = search (rules, found)

pub overflow_add-result-in-Entry : goal.overflow_add-result-in-Entry
overflow_add-result-in-Entry c = search (rules, found)

pub enum_known-found-in-Line-1 : goal.enum_known-found-in-Line-1
enum_known-found-in-Line-1 c = search (rules, found)

pub wide-requires-in-Line : goal.wide-requires-in-Line
wide-requires-in-Line c = search (rules, found)

pub wide-requires-in-Line-2 : goal.wide-requires-in-Line-2
wide-requires-in-Line-2 c = search (rules, found)

pub overflow_add-result-in-Line : goal.overflow_add-result-in-Line
overflow_add-result-in-Line c = search (rules, found)

pub wide-requires-in-Line-3 : goal.wide-requires-in-Line-3
wide-requires-in-Line-3 c = search (rules, found)

pub overflow_add-result-in-Line-2 : goal.overflow_add-result-in-Line-2
overflow_add-result-in-Line-2 c = search (rules, found)

pub wide-requires-in-Line-4 : goal.wide-requires-in-Line-4
wide-requires-in-Line-4 c = search (rules, found)

pub overflow_add-result-in-Line-3 : goal.overflow_add-result-in-Line-3
overflow_add-result-in-Line-3 c = search (rules, found)

pub returns-in-Everyone : goal.returns-in-Everyone
returns-in-Everyone c = search (rules, found)

pub returns-in-Entry : goal.returns-in-Entry
returns-in-Entry c = search (rules, found)

pub returns-in-Line : goal.returns-in-Line
returns-in-Line c = search (rules, found)
