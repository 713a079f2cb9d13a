-- Each line is its columns and its tail.
use borrow.Author.Rules.{rules}
use Rattle.file_blocks.proofs.Lined.{entering}
use Rattle.file_blocks.proofs.lines.put_entry_lines.Goals as goal

pub overflow_cast-n : goal.overflow_cast-n
overflow_cast-n c = search (rules, entering)

pub put_first-a-requires : goal.put_first-a-requires
put_first-a-requires c = search (rules, entering)

pub put_tail-b-requires : goal.put_tail-b-requires
put_tail-b-requires c = search (rules, entering)

pub put_second-c-requires : goal.put_second-c-requires
put_second-c-requires c = search (rules, entering)

pub overflow_add-n : goal.overflow_add-n
overflow_add-n c = search (rules, entering)

pub put_tail-requires : goal.put_tail-requires
put_tail-requires c = search (rules, entering)

pub shape_of-out : goal.shape_of-out
shape_of-out c = search (rules, entering)

pub returns : goal.returns
returns c = search (rules, entering)
