use borrow.Author.Rules.{rules}
use Rattle.directory.proofs.Ranges.{ruling}
use Rattle.directory_rules.proofs.entry_rules.Goals as goal

pub returns-then-not-ranges_ok : goal.returns-then-not-ranges_ok
returns-then-not-ranges_ok c = search (rules, ruling)

pub returns-then-x-eq306 : goal.returns-then-x-eq306
returns-then-x-eq306 c = search (rules, ruling)

pub returns : goal.returns
returns c = search (rules, ruling)
