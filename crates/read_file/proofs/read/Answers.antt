-- A refusal is that of reading; a sheet is measured before it is written.
use borrow.Author.Rules.{rules}
use Rattle.read_file.proofs.ReadingAnswers.{readings}
use Rattle.read_file.proofs.read.Goals as goal

pub returns-clause-value : goal.returns-clause-value
returns-clause-value c = search (rules, readings)

pub returns-clause-out_after : goal.returns-clause-out_after
returns-clause-out_after c = search (rules, readings)
