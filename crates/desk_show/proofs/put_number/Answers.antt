-- The digits, then the byte.
use borrow.Author.Rules.{rules}
use Rattle.desk_show.proofs.Lines.{lines}
use Rattle.desk_show.proofs.put_number.Goals as goal

pub put_decimal-next-requires : goal.put_decimal-next-requires
put_decimal-next-requires c = search (rules, lines)

pub put-requires : goal.put-requires
put-requires c = search (rules, lines)

pub shape_of-out : goal.shape_of-out
shape_of-out c = search (rules, lines)

pub returns : goal.returns
returns c = search (rules, lines)
