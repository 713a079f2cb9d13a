-- X and a tab, the number and a tab, the place and LF.
use borrow.Author.Rules.{rules}
use Rattle.desk_show.proofs.Lines.{lines}
use Rattle.desk_show.proofs.put_refusal.Goals as goal

pub put-a-requires : goal.put-a-requires
put-a-requires c = search (rules, lines)

pub put-b-requires : goal.put-b-requires
put-b-requires c = search (rules, lines)

pub put_number-c-requires : goal.put_number-c-requires
put_number-c-requires c = search (rules, lines)

pub put_number-requires : goal.put_number-requires
put_number-requires c = search (rules, lines)

pub shape_of-out : goal.shape_of-out
shape_of-out c = search (rules, lines)

pub returns : goal.returns
returns c = search (rules, lines)
