-- Blanks, what stands on the line, and the comma.
use borrow.Author.Rules.{rules}
use Rattle.file_parameters.proofs.Spelled.{spelling}
use Rattle.file_parameters.proofs.put_spelled.Goals as goal

pub front_of-n-requires : goal.front_of-n-requires
front_of-n-requires c = search (rules, spelling)

pub overflow_add-n : goal.overflow_add-n
overflow_add-n c = search (rules, spelling)

pub gap_of-g-requires : goal.gap_of-g-requires
gap_of-g-requires c = search (rules, spelling)

pub put_run-q-requires : goal.put_run-q-requires
put_run-q-requires c = search (rules, spelling)

pub put_all-e-requires : goal.put_all-e-requires
put_all-e-requires c = search (rules, spelling)

pub put_char-requires : goal.put_char-requires
put_char-requires c = search (rules, spelling)

pub shape_of-out : goal.shape_of-out
shape_of-out c = search (rules, spelling)

pub returns : goal.returns
returns c = search (rules, spelling)
