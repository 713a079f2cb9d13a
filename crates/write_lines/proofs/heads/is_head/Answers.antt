-- By the three bytes.
use borrow.Author.Rules.{rules}
use Rattle.write_lines.proofs.Heading.{bytes}
use Rattle.write_lines.proofs.heads.is_head.Goals as goal

pub returns-then-b-eq69 : goal.returns-then-b-eq69
returns-then-b-eq69 c = search (rules, bytes)

pub returns-then-b-eq85 : goal.returns-then-b-eq85
returns-then-b-eq85 c = search (rules, bytes)

pub returns : goal.returns
returns c = search (rules, bytes)
