-- Z, tab, the count, LF.
use borrow.Author.Rules.{rules}
use Rattle.sheets.proofs.Written.{puts}
use Rattle.sheets_lay.proofs.put_last.Goals as goal

pub put_mark-a-requires : goal.put_mark-a-requires
put_mark-a-requires c = search (rules, puts)

pub put_decimal-b-requires : goal.put_decimal-b-requires
put_decimal-b-requires c = search (rules, puts)

pub put-requires : goal.put-requires
put-requires c = search (rules, puts)

pub shape_of-out : goal.shape_of-out
shape_of-out c = search (rules, puts)

pub returns : goal.returns
returns c = search (rules, puts)
