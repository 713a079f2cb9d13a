-- A refusal is that of writing; the lines of the file are known before they are laid.
use borrow.Author.Rules.{rules}
use Rattle.write_sheet.proofs.WritingAnswers.{writings}
use Rattle.write_sheet.proofs.write.Goals as goal

pub returns-then-short-clause-value : goal.returns-then-short-clause-value
returns-then-short-clause-value c = search (rules, writings)

pub returns-then-short-clause-out_after : goal.returns-then-short-clause-out_after
returns-then-short-clause-out_after c = search (rules, writings)

pub returns-clause-value : goal.returns-clause-value
returns-clause-value c = search (rules, writings)

pub returns-clause-out_after : goal.returns-clause-out_after
returns-clause-out_after c = search (rules, writings)
