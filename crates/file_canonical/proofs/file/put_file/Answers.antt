-- What is laid is the canonical file.
use borrow.Author.Rules.{rules}
use Rattle.file_canonical.proofs.Readied.{readied}
use Rattle.file_canonical.proofs.file.put_file.Goals as goal

pub put_sections-requires : goal.put_sections-requires
put_sections-requires c = search (rules, readied)

pub shape_of-out : goal.shape_of-out
shape_of-out c = search (rules, readied)

pub returns : goal.returns
returns c = search (rules, readied)
