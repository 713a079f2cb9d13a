-- By the two cases of an entry.
use borrow.Author.Rules.{rules}
use Rattle.print_sheet.proofs.Rowed.{row}
use Rattle.print_sheet.proofs.rows.put_row.Goals as goal

pub returns-in-None : goal.returns-in-None
returns-in-None c = search (rules, row)

pub returns-in-Some : goal.returns-in-Some
returns-in-Some c = search (rules, row)

pub put_spelt-requires-clause-spelt_reads : goal.put_spelt-requires-clause-spelt_reads
put_spelt-requires-clause-spelt_reads c = search (rules, row)
