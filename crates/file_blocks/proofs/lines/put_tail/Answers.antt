-- They, and LF.
use borrow.Author.Rules.{rules}
use Rattle.file_blocks.proofs.Lined.{counted}
use Rattle.file_blocks.proofs.lines.put_tail.Goals as goal

pub put_count-a-requires : goal.put_count-a-requires
put_count-a-requires c = search (rules, counted)

pub put-requires : goal.put-requires
put-requires c = search (rules, counted)

pub shape_of-out : goal.shape_of-out
shape_of-out c = search (rules, counted)

pub returns : goal.returns
returns c = search (rules, counted)
