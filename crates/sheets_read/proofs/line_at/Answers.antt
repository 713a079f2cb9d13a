-- What a line says stands in the line.
use borrow.Author.Rules.{rules}
use Rattle.sheets.proofs.Bounds.{within}
use Rattle.sheets_read.proofs.line_at.Goals as goal

pub by_mark-requires : goal.by_mark-requires
by_mark-requires c = search (rules, within)

pub returns : goal.returns
returns c = search (rules, within)
