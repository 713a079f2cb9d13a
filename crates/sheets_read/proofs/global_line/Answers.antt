-- A tab, a number from 3 to 24, and what stands behind the tab.
use borrow.Author.Rules.{rules}
use Rattle.sheets.proofs.Machine.{globals}
use Rattle.sheets_read.proofs.global_line.Goals as goal

pub find-e-requires : goal.find-e-requires
find-e-requires c = search (rules, globals)

pub returns-then-e-end : goal.returns-then-e-end
returns-then-e-end c = search (rules, globals)

pub size_at-n-requires : goal.size_at-n-requires
size_at-n-requires c = search (rules, globals)

pub returns-then-n-lt3 : goal.returns-then-n-lt3
returns-then-n-lt3 c = search (rules, globals)

pub returns-then-n-gt24 : goal.returns-then-n-gt24
returns-then-n-gt24 c = search (rules, globals)

pub overflow_add-e : goal.overflow_add-e
overflow_add-e c = search (rules, globals)

pub strict_at-v-requires : goal.strict_at-v-requires
strict_at-v-requires c = search (rules, globals)

pub overflow_cast-n : goal.overflow_cast-n
overflow_cast-n c = search (rules, globals)

pub overflow_add-e-2 : goal.overflow_add-e-2
overflow_add-e-2 c = search (rules, globals)

pub overflow_sub-e : goal.overflow_sub-e
overflow_sub-e c = search (rules, globals)

pub overflow_add-e-3 : goal.overflow_add-e-3
overflow_add-e-3 c = search (rules, globals)

pub global_of-requires : goal.global_of-requires
global_of-requires c = search (rules, globals)

pub returns : goal.returns
returns c = search (rules, globals)
