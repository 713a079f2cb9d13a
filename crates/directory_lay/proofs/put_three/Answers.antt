-- One number behind the other.
use borrow.Author.Rules.{rules}
use Rattle.directory.proofs.Puts.{wrote_three}
use Rattle.directory_lay.proofs.put_three.Goals as goal

pub put_number-a-requires : goal.put_number-a-requires
put_number-a-requires c = search rules

pub put_number-b-requires : goal.put_number-b-requires
put_number-b-requires c = search rules

pub put_number-requires : goal.put_number-requires
put_number-requires c = search rules

pub shape_of-out : goal.shape_of-out
shape_of-out c = search rules

pub returns : goal.returns
returns c = search (rules, wrote_three)
