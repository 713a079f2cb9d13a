-- A piece with no LF says nothing; a line says what was read of it.
use borrow.Author.Rules.{rules}
use Rattle.file_globals.proofs.Fielded.{fielded}
use Rattle.file_globals.proofs.field_at.Goals as goal

pub returns-then-end-t : goal.returns-then-end-t
returns-then-end-t c = search (rules, fielded)

pub returns-in-Global : goal.returns-in-Global
returns-in-Global c = search (rules, fielded)

pub returns-in-Start : goal.returns-in-Start
returns-in-Start c = search (rules, fielded)

pub returns-in-Value : goal.returns-in-Value
returns-in-Value c = search (rules, fielded)

pub returns-in-Entry : goal.returns-in-Entry
returns-in-Entry c = search (rules, fielded)

pub returns-in-Last : goal.returns-in-Last
returns-in-Last c = search (rules, fielded)

pub returns-in-Nothing : goal.returns-in-Nothing
returns-in-Nothing c = search (rules, fielded)
