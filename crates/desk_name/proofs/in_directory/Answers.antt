-- The entry of an odd number stands at a computed line, and its label in that line's columns.
use borrow.Author.Rules.{rules}
use Rattle.desk_name.proofs.Naming.{in_directory}
use Rattle.desk_name.proofs.in_directory.Goals as goal

pub wide-n-requires : goal.wide-n-requires
wide-n-requires c = search (rules, in_directory)

pub returns-then-n-ne1 : goal.returns-then-n-ne1
returns-then-n-ne1 c = search (rules, in_directory)

pub wide-requires : goal.wide-requires
wide-requires c = search (rules, in_directory)

pub returns-then-wide-i : goal.returns-then-wide-i
returns-then-wide-i c = search (rules, in_directory)

pub entry_line-k-requires : goal.entry_line-k-requires
entry_line-k-requires c = search (rules, in_directory)

pub label_at-at-requires : goal.label_at-at-requires
label_at-at-requires c = search (rules, in_directory)

pub overflow_add-at : goal.overflow_add-at
overflow_add-at c = search (rules, in_directory)

pub is_blank-requires : goal.is_blank-requires
is_blank-requires c = search (rules, in_directory)

pub returns-then-is_blank : goal.returns-then-is_blank
returns-then-is_blank c = search (rules, in_directory)

pub returns : goal.returns
returns c = search (rules, in_directory)
