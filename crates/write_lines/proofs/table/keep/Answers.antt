-- A line without a class leaves the table as it is.
use borrow.Author.Rules.{rules}
use Rattle.write_lines.proofs.Tables.{keeping}
use Rattle.write_lines.proofs.table.keep.Goals as goal

pub returns-then-class-eq-NO_ENTRY-clause-wrote : goal.returns-then-class-eq-NO_ENTRY-clause-wrote
returns-then-class-eq-NO_ENTRY-clause-wrote c = search (rules, keeping)
