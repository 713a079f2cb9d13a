-- The text to the left of 72 columns, and the tail.
use borrow.Author.Rules.{rules}
use Rattle.file_blocks.proofs.Lined.{starting}
use Rattle.file_blocks.proofs.lines.put_start_line.Goals as goal

pub put_left-a-requires : goal.put_left-a-requires
put_left-a-requires c = search (rules, starting)

pub put_tail-requires : goal.put_tail-requires
put_tail-requires c = search (rules, starting)

pub shape_of-out : goal.shape_of-out
shape_of-out c = search (rules, starting)

pub returns : goal.returns
returns c = search (rules, starting)
