-- A letter and seven digits.
use borrow.Author.Rules.{rules}
use Rattle.file_blocks.proofs.Lined.{counted}
use Rattle.file_blocks.proofs.lines.put_count.Goals as goal

pub put-a-requires : goal.put-a-requires
put-a-requires c = search (rules, counted)

pub put_right-requires : goal.put_right-requires
put_right-requires c = search (rules, counted)

pub shape_of-out : goal.shape_of-out
shape_of-out c = search (rules, counted)

pub returns : goal.returns
returns c = search (rules, counted)
