-- By whether the record ends with its opening.
use borrow.Author.Rules.{rules}
use Rattle.read_file.proofs.Reading.{fielding}
use Rattle.read_file.proofs.sheet.fields_len.Goals as goal

pub returns-then-last : goal.returns-then-last
returns-then-last c = search (rules, fielding)

pub slice_bounds-put_globals-end : goal.slice_bounds-put_globals-end
slice_bounds-put_globals-end c = search (rules, fielding)

pub put_globals-requires : goal.put_globals-requires
put_globals-requires c = search (rules, fielding)

pub returns : goal.returns
returns c = search (rules, fielding)
