-- Too short, no tab, or one of the seven letters.
use borrow.Author.Rules.{rules}
use Rattle.sheets.proofs.Machine.{marks}
use Rattle.sheets_read.proofs.by_mark.Goals as goal

pub returns-then-end-at : goal.returns-then-end-at
returns-then-end-at c = search (rules, marks)

pub bounds-s-at : goal.bounds-s-at
bounds-s-at c = search (rules, marks)

pub overflow_sub-end : goal.overflow_sub-end
overflow_sub-end c = search (rules, marks)

pub is_mark-requires : goal.is_mark-requires
is_mark-requires c = search (rules, marks)

pub returns-then-end-at-lt2 : goal.returns-then-end-at-lt2
returns-then-end-at-lt2 c = search (rules, marks)

pub overflow_add-at : goal.overflow_add-at
overflow_add-at c = search (rules, marks)

pub bounds-s-at-2 : goal.bounds-s-at-2
bounds-s-at-2 c = search (rules, marks)

pub is_mark-requires-then-s-at-ne9 : goal.is_mark-requires-then-s-at-ne9
is_mark-requires-then-s-at-ne9 c = search (rules, marks)

pub returns-then-s-at-ne9 : goal.returns-then-s-at-ne9
returns-then-s-at-ne9 c = search (rules, marks)

pub overflow_add-t : goal.overflow_add-t
overflow_add-t c = search (rules, marks)

pub start_line-requires : goal.start_line-requires
start_line-requires c = search (rules, marks)

pub returns-then-a-eq83 : goal.returns-then-a-eq83
returns-then-a-eq83 c = search (rules, marks)

pub global_line-requires : goal.global_line-requires
global_line-requires c = search (rules, marks)

pub returns-then-a-eq71 : goal.returns-then-a-eq71
returns-then-a-eq71 c = search (rules, marks)

pub entry_at-requires : goal.entry_at-requires
entry_at-requires c = search (rules, marks)

pub entry_said-requires : goal.entry_said-requires
entry_said-requires c = search (rules, marks)

pub returns-then-a-eq69 : goal.returns-then-a-eq69
returns-then-a-eq69 c = search (rules, marks)

pub entry_at-requires-then-a-eq85 : goal.entry_at-requires-then-a-eq85
entry_at-requires-then-a-eq85 c = search (rules, marks)

pub entry_said-requires-then-a-eq85 : goal.entry_said-requires-then-a-eq85
entry_said-requires-then-a-eq85 c = search (rules, marks)

pub returns-then-a-eq85 : goal.returns-then-a-eq85
returns-then-a-eq85 c = search (rules, marks)

pub strict_at-requires : goal.strict_at-requires
strict_at-requires c = search (rules, marks)

pub value_said-requires : goal.value_said-requires
value_said-requires c = search (rules, marks)

pub returns-then-a-eq82 : goal.returns-then-a-eq82
returns-then-a-eq82 c = search (rules, marks)

pub strict_at-requires-then-a-eq86 : goal.strict_at-requires-then-a-eq86
strict_at-requires-then-a-eq86 c = search (rules, marks)

pub value_said-requires-then-a-eq86 : goal.value_said-requires-then-a-eq86
value_said-requires-then-a-eq86 c = search (rules, marks)

pub returns-then-a-eq86 : goal.returns-then-a-eq86
returns-then-a-eq86 c = search (rules, marks)

pub last_line-requires : goal.last_line-requires
last_line-requires c = search (rules, marks)

pub returns-then-a-eq90 : goal.returns-then-a-eq90
returns-then-a-eq90 c = search (rules, marks)

pub returns : goal.returns
returns c = search (rules, marks)
