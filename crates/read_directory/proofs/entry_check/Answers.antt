use borrow.Author.Rules.{rules}
use Rattle.read_passes.proofs.Referring.{turns}
use Rattle.read_directory.proofs.entry_check.Goals as goal

pub returns-in_default : goal.returns-in_default
returns-in_default c = search (rules, turns)

pub returns-in-Err : goal.returns-in-Err
returns-in-Err c = search (rules, turns)

pub returns-in-Ok : goal.returns-in-Ok
returns-in-Ok c = search (rules, turns)
