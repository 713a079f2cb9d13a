use borrow.Author.Rules.{rules}
use Rattle.print_sheet.proofs.Rowed.{rows}
use Rattle.print_sheet.proofs.rows.put_rows.Goals as goal

pub loop-i-preserved : goal.loop-i-preserved
loop-i-preserved c = search (rules, rows)

pub returns-clause-wrote : goal.returns-clause-wrote
returns-clause-wrote c = search (rules, rows)
