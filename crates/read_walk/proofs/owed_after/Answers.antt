-- By whether the value is a default.
use borrow.Author.Rules.{rules}
use Rattle.read_entities.proofs.Walks.{owes}
use Rattle.read_walk.proofs.owed_after.Goals as goal

pub is_missing-requires : goal.is_missing-requires
is_missing-requires c = search (rules, owes)

pub overflow_add-result : goal.overflow_add-result
overflow_add-result c = search (rules, owes)

pub returns-then-is_missing : goal.returns-then-is_missing
returns-then-is_missing c = search (rules, owes)

pub returns : goal.returns
returns c = search (rules, owes)
