-- One byte after another.
use borrow.Author.Rules.{rules}
use Rattle.sheets.proofs.Written.{puts}
use Rattle.sheets_lay.proofs.put_mark.Goals as goal

pub put-next-requires : goal.put-next-requires
put-next-requires c = search (rules, puts)

pub put-requires : goal.put-requires
put-requires c = search (rules, puts)

pub shape_of-out : goal.shape_of-out
shape_of-out c = search (rules, puts)

pub returns : goal.returns
returns c = search (rules, puts)
