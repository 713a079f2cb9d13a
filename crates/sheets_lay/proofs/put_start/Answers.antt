-- S and a tab, then the text and LF.
use borrow.Author.Rules.{rules}
use Rattle.sheets.proofs.Written.{puts}
use Rattle.sheets_lay.proofs.put_start.Goals as goal

pub put_mark-next-requires : goal.put_mark-next-requires
put_mark-next-requires c = search (rules, puts)

pub put_tail-requires : goal.put_tail-requires
put_tail-requires c = search (rules, puts)

pub shape_of-out : goal.shape_of-out
shape_of-out c = search (rules, puts)

pub returns : goal.returns
returns c = search (rules, puts)
