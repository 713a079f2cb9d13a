-- A blank, the directory number, and the tail.
use borrow.Author.Rules.{rules}
use Rattle.file_blocks.proofs.Lined.{owning}
use Rattle.file_parameters.proofs.put_owned.Goals as goal

pub put-a-requires : goal.put-a-requires
put-a-requires c = search (rules, owning)

pub overflow_cast-number : goal.overflow_cast-number
overflow_cast-number c = search (rules, owning)

pub put_right-b-requires : goal.put_right-b-requires
put_right-b-requires c = search (rules, owning)

pub overflow_cast-n : goal.overflow_cast-n
overflow_cast-n c = search (rules, owning)

pub put_tail-requires : goal.put_tail-requires
put_tail-requires c = search (rules, owning)

pub shape_of-out : goal.shape_of-out
shape_of-out c = search (rules, owning)

pub returns : goal.returns
returns c = search (rules, owning)
