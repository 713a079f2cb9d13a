-- G lines behind S lines.
use borrow.Author.Rules.{rules}
use Rattle.file_canonical.proofs.Whole.{texts}
use Rattle.file_canonical.proofs.file.put_texts.Goals as goal

pub put_starts-at-requires : goal.put_starts-at-requires
put_starts-at-requires c = search (rules, texts)

pub overflow_mul-s : goal.overflow_mul-s
overflow_mul-s c = search (rules, texts)

pub put_globals-b-requires : goal.put_globals-b-requires
put_globals-b-requires c = record {
  at_in_bounds = search (rules, texts);
  base_bound = search (rules, texts);
  at_len_bound = search (rules, texts);
  at_bound = search (rules, texts);
}

pub shape_of-out : goal.shape_of-out
shape_of-out c = search (rules, texts)

pub returns : goal.returns
returns c = search (rules, texts)
