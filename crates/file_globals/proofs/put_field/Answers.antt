use borrow.Author.Rules.{rules}
use Rattle.file_globals.proofs.Fielded.{one}
use Rattle.file_globals.proofs.put_field.Goals as goal

pub returns : goal.returns
returns c = search (rules, one)
