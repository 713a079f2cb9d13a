-- The line shows its number, and then its type.
use borrow.Author.Rules.{rules}
use Rattle.write_lines.proofs.Showing.{shows}
use Rattle.write_lines.proofs.far.class_if.Goals as goal

pub returns : goal.returns
returns c = search (rules, shows)
