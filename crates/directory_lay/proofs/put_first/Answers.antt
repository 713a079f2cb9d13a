-- The first nine fields.
use borrow.Author.Rules.{rules}
use Rattle.directory.proofs.Puts.{wrote_first}
use Rattle.directory_lay.proofs.put_first.Goals as goal

pub put_number-a-requires : goal.put_number-a-requires
put_number-a-requires c = search rules

pub overflow_cast-from : goal.overflow_cast-from
overflow_cast-from c = search rules

pub put_right-b-requires : goal.put_right-b-requires
put_right-b-requires c = search rules

pub put_three-c-requires : goal.put_three-c-requires
put_three-c-requires c = search rules

pub put_three-d-requires : goal.put_three-d-requires
put_three-d-requires c = search rules

pub overflow_cast-status : goal.overflow_cast-status
overflow_cast-status c = search rules

pub put_right-requires : goal.put_right-requires
put_right-requires c = search rules

pub shape_of-out : goal.shape_of-out
shape_of-out c = search rules

pub returns : goal.returns
returns c = record {
  wrote = wrote_first _ _ c.put_number-a.ensures.wrote c.put_right-b.ensures.wrote c.put_three-c.ensures.wrote c.put_three-d.ensures.wrote
      c.put_right.ensures.wrote;
  upper_bound = search rules;
}
