use borrow.Author.Rules.{rules}
use Rattle.owners.proofs.Laws.{firsts}
use Rattle.owners_pass.proofs.first_entry.Goals as goal

pub returns-then-not-entry_owns : goal.returns-then-not-entry_owns
returns-then-not-entry_owns c = search (rules, firsts)

pub loop-i-preserved : goal.loop-i-preserved
loop-i-preserved c = search (rules, firsts)

pub returns : goal.returns
returns c = search (rules, firsts)
