-- The counts, blanks up to column 72, and the tail.
use borrow.Author.Rules.{rules}
use Rattle.file_blocks.proofs.Lined.{lasting}
use Rattle.file_blocks.proofs.lines.put_last_line.Goals as goal

pub put_totals-a-requires : goal.put_totals-a-requires
put_totals-a-requires c = search (rules, lasting)

pub put_run-b-requires : goal.put_run-b-requires
put_run-b-requires c = search (rules, lasting)

pub put_tail-requires : goal.put_tail-requires
put_tail-requires c = search (rules, lasting)

pub shape_of-out : goal.shape_of-out
shape_of-out c = search (rules, lasting)

pub returns : goal.returns
returns c = search (rules, lasting)
