-- The rest of the text is its columns up to its length.
use borrow.Author.Rules.{rules}
use Rattle.sheets.proofs.Machine.{end_of}
use Rattle.sheets_read.proofs.end_of.Goals as goal

pub find-requires : goal.find-requires
find-requires c = search (rules, end_of)

pub returns : goal.returns
returns c = search (rules, end_of)
