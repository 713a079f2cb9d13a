-- The line has the length of the value's spelling.
use borrow.Author.Rules.{rules}
use Rattle.file_canonical.proofs.Tallies.{valued}
use Rattle.file_tally.proofs.behind_value.Goals as goal

pub returns-then-p-gt-MOST_COLUMNS : goal.returns-then-p-gt-MOST_COLUMNS
returns-then-p-gt-MOST_COLUMNS c = search (rules, valued)

pub spelled_end-requires : goal.spelled_end-requires
spelled_end-requires c = search (rules, valued)

pub returns : goal.returns
returns c = search (rules, valued)
