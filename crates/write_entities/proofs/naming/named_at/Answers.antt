-- Only a whole number without a sign is looked up.
use borrow.Author.Rules.{rules}
use Rattle.write_entities.proofs.Typed.{values}
use Rattle.write_entities.proofs.naming.named_at.Goals as goal

pub enum_known-v : goal.enum_known-v
enum_known-v c = search (rules, values)

pub returns-then-neg : goal.returns-then-neg
returns-then-neg c = search (rules, values)

pub class_at-requires : goal.class_at-requires
class_at-requires c = search (rules, values)

pub returns-else-neg : goal.returns-else-neg
returns-else-neg c = search (rules, values)

pub returns-in_default : goal.returns-in_default
returns-in_default c = search (rules, values)
