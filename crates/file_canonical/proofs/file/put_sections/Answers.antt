-- Section behind section, each 81 bytes a line.
use borrow.Author.Rules.{rules}
use Rattle.file_canonical.proofs.Whole.{laying}
use Rattle.file_canonical.proofs.file.put_sections.Goals as goal

pub wide-s-requires : goal.wide-s-requires
wide-s-requires c = search (rules, laying)

pub wide-requires : goal.wide-requires
wide-requires c = search (rules, laying)

pub overflow_add-texts : goal.overflow_add-texts
overflow_add-texts c = search (rules, laying)

pub wide-requires-2 : goal.wide-requires-2
wide-requires-2 c = search (rules, laying)

pub overflow_add-directory : goal.overflow_add-directory
overflow_add-directory c = search (rules, laying)

pub wide-requires-3 : goal.wide-requires-3
wide-requires-3 c = search (rules, laying)

pub overflow_add-end : goal.overflow_add-end
overflow_add-end c = search (rules, laying)

pub put_texts-at-requires : goal.put_texts-at-requires
put_texts-at-requires c = search (rules, laying)

pub overflow_mul-x : goal.overflow_mul-x
overflow_mul-x c = search (rules, laying)

pub overflow_mul-x-2 : goal.overflow_mul-x-2
overflow_mul-x-2 c = search (rules, laying)

pub put_rows-requires : goal.put_rows-requires
put_rows-requires c = search (rules, laying)

pub overflow_mul-end : goal.overflow_mul-end
overflow_mul-end c = search (rules, laying)

pub put_last_line-requires : goal.put_last_line-requires
put_last_line-requires c = search (rules, laying)

pub shape_of-out : goal.shape_of-out
shape_of-out c = search (rules, laying)

pub returns : goal.returns
returns c = search (rules, laying)
