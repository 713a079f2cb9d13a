-- The values are wrong at their first refusal; else what follows them and their fields decide.
use borrow.Author.Rules.{rules}
use Rattle.read_global.proofs.GlobalAnswers.{answering}
use Rattle.read_global.proofs.values_pass.Goals as goal

pub returns-in-Err : goal.returns-in-Err
returns-in-Err c = search (rules, answering)

pub returns-in-Ok : goal.returns-in-Ok
returns-in-Ok c = search (rules, answering)
