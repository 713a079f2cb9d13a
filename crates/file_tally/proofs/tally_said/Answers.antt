-- Line by line, by what was read.
use borrow.Author.Rules.{rules}
use Rattle.file_canonical.proofs.Tallies.{said}
use Rattle.file_tally.proofs.tally_said.Goals as goal

pub enum_told-1 : goal.enum_told-1
enum_told-1 c = search (rules, said)

pub with_start-requires : goal.with_start-requires
with_start-requires c = search (rules, said)

pub enum_known-y : goal.enum_known-y
enum_known-y c = search (rules, said)

pub with_global-requires : goal.with_global-requires
with_global-requires c = search (rules, said)

pub enum_known-y-in-Entry-1 : goal.enum_known-y-in-Entry-1
enum_known-y-in-Entry-1 c = search (rules, said)

pub with_entry-requires : goal.with_entry-requires
with_entry-requires c = search (rules, said)

pub enum_known-y-in-Value-1 : goal.enum_known-y-in-Value-1
enum_known-y-in-Value-1 c = search (rules, said)

pub with_value-requires : goal.with_value-requires
with_value-requires c = search (rules, said)

pub enum_told-in-Last : goal.enum_told-in-Last
enum_told-in-Last c = search (rules, said)

pub enum_told-in-Nothing : goal.enum_told-in-Nothing
enum_told-in-Nothing c = search (rules, said)

pub returns-in-Start : goal.returns-in-Start
returns-in-Start c = search (rules, said)

pub returns-in-Global : goal.returns-in-Global
returns-in-Global c = search (rules, said)

pub returns-in-Entry : goal.returns-in-Entry
returns-in-Entry c = search (rules, said)

pub returns-in-Value : goal.returns-in-Value
returns-in-Value c = search (rules, said)

pub returns-in-Last : goal.returns-in-Last
returns-in-Last c = search (rules, said)

pub returns-in-Nothing : goal.returns-in-Nothing
returns-in-Nothing c = search (rules, said)
