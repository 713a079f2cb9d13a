-- The other nine; the two reserved ones are one run.
use borrow.Author.Rules.{rules}
use Rattle.directory.proofs.Puts.{wrote_second}
use Rattle.directory_lay.proofs.put_second.Goals as goal

pub put_three-a-requires : goal.put_three-a-requires
put_three-a-requires c = search rules

pub put_right-b-requires : goal.put_right-b-requires
put_right-b-requires c = search rules

pub put_number-c-requires : goal.put_number-c-requires
put_number-c-requires c = search rules

pub put_run-d-requires : goal.put_run-d-requires
put_run-d-requires c = search rules

pub put_all-e-requires : goal.put_all-e-requires
put_all-e-requires c = search rules

pub put_number-requires : goal.put_number-requires
put_number-requires c = search rules

pub shape_of-out : goal.shape_of-out
shape_of-out c = search rules

pub returns : goal.returns
returns c = record {
  wrote = wrote_second _ _ _ c.put_three-a.ensures.wrote c.put_right-b.ensures.wrote c.put_number-c.ensures.wrote c.put_run-d.ensures.wrote
      c.put_all-e.ensures.wrote c.put_number.ensures.wrote;
  upper_bound = search rules;
}
