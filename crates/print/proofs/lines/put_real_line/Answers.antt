-- The mark, the tab, the real, LF.
use borrow.Author.Rules.{rules}
use Rattle.print.proofs.Texts.{line_real}
use Rattle.print.proofs.lines.put_real_line.Goals as goal

pub value_mark-requires : goal.value_mark-requires
value_mark-requires c = search rules

pub put-a-requires : goal.put-a-requires
put-a-requires c = search rules

pub put-b-requires : goal.put-b-requires
put-b-requires c = search rules

pub put_real-c-requires : goal.put_real-c-requires
put_real-c-requires c = search rules

pub put-requires : goal.put-requires
put-requires c = search rules

pub shape_of-out : goal.shape_of-out
shape_of-out c = search rules

pub returns : goal.returns
returns c = search (rules, line_real)
