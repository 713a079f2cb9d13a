-- One store, and the blanks behind it.
use borrow.Author.Rules.{rules}
use Rattle.file_blocks.proofs.Ended.{closing}
use Rattle.file_blocks.proofs.text.close.Goals as goal

pub line_count-lines-requires : goal.line_count-lines-requires
line_count-lines-requires c = search (rules, closing)

pub overflow_sub-p : goal.overflow_sub-p
overflow_sub-p c = search (rules, closing)

pub put_char-at-requires : goal.put_char-at-requires
put_char-at-requires c = search (rules, closing)

pub overflow_mul-lines : goal.overflow_mul-lines
overflow_mul-lines c = search (rules, closing)

pub overflow_sub-lines : goal.overflow_sub-lines
overflow_sub-lines c = search (rules, closing)

pub put_run-requires : goal.put_run-requires
put_run-requires c = search (rules, closing)

pub shape_of-out : goal.shape_of-out
shape_of-out c = search (rules, closing)

pub returns : goal.returns
returns c = search (rules, closing)
