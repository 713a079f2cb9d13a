-- The first byte tells whether the line is read; a line without bytes says nothing.
use borrow.Author.Rules.{rules}
use Rattle.write_lines.proofs.Heading.{heads}
use Rattle.write_lines.proofs.heads.head_at.Goals as goal

pub returns-then-end-at : goal.returns-then-end-at
returns-then-end-at c = search (rules, heads)

pub returns-then-is_head : goal.returns-then-is_head
returns-then-is_head c = search (rules, heads)

pub returns : goal.returns
returns c = search (rules, heads)
