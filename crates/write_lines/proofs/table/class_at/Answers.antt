-- A number that names no entry has no class; the table has the others, if they are few; else a line that shows the number, or the sheet counted off.
use borrow.Author.Rules.{rules}
use Rattle.write_lines.proofs.Tables.{names}
use Rattle.write_lines.proofs.table.class_at.Goals as goal

pub returns-then-some_at-eq-NO_ENTRY : goal.returns-then-some_at-eq-NO_ENTRY
returns-then-some_at-eq-NO_ENTRY c = search (rules, names)

pub bounds-classes-i : goal.bounds-classes-i
bounds-classes-i c = search (rules, names)

pub returns-then-n-le-TABLE : goal.returns-then-n-le-TABLE
returns-then-n-le-TABLE c = search (rules, names)

pub returns : goal.returns
returns c = search (rules, names)
