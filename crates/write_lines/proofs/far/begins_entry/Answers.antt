-- By the letter, and what stands before it.
use borrow.Author.Rules.{rules}
use Rattle.write_lines.proofs.Showing.{begins}
use Rattle.write_lines.proofs.far.begins_entry.Goals as goal

pub returns-then-b-eq69 : goal.returns-then-b-eq69
returns-then-b-eq69 c = search (rules, begins)

pub returns-then-b-eq85 : goal.returns-then-b-eq85
returns-then-b-eq85 c = search (rules, begins)

pub returns : goal.returns
returns c = search (rules, begins)
