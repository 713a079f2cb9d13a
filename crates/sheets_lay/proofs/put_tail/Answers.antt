-- The text, then LF.
use borrow.Author.Rules.{rules}
use Rattle.sheets.proofs.Written.{puts}
use Rattle.sheets_lay.proofs.put_tail.Goals as goal

pub put_all-next-requires : goal.put_all-next-requires
put_all-next-requires c = search (rules, puts)

pub put-requires : goal.put-requires
put-requires c = search (rules, puts)

pub shape_of-out : goal.shape_of-out
shape_of-out c = search (rules, puts)

pub returns : goal.returns
returns c = search (rules, puts)
