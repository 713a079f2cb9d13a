-- Four letters, each with its count.
use borrow.Author.Rules.{rules}
use Rattle.file_blocks.proofs.Lined.{totalling}
use Rattle.file_blocks.proofs.lines.put_totals.Goals as goal

pub wide-requires : goal.wide-requires
wide-requires c = search (rules, totalling)

pub put_count-e-requires : goal.put_count-e-requires
put_count-e-requires c = search (rules, totalling)

pub wide-requires-2 : goal.wide-requires-2
wide-requires-2 c = search (rules, totalling)

pub put_count-f-requires : goal.put_count-f-requires
put_count-f-requires c = search (rules, totalling)

pub wide-requires-3 : goal.wide-requires-3
wide-requires-3 c = search (rules, totalling)

pub put_count-g-requires : goal.put_count-g-requires
put_count-g-requires c = search (rules, totalling)

pub wide-requires-4 : goal.wide-requires-4
wide-requires-4 c = search (rules, totalling)

pub put_count-requires : goal.put_count-requires
put_count-requires c = search (rules, totalling)

pub shape_of-out : goal.shape_of-out
shape_of-out c = search (rules, totalling)

pub returns : goal.returns
returns c = search (rules, totalling)
