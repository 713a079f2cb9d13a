-- Only a whole number without a sign names an entry.
use borrow.Author.Rules.{rules}
use Rattle.write_entities.proofs.Typed.{somes}
use Rattle.write_entities.proofs.naming.some_named.Goals as goal

pub enum_known-v : goal.enum_known-v
enum_known-v c = search (rules, somes)

pub returns-then-neg : goal.returns-then-neg
returns-then-neg c = search (rules, somes)

pub some_at-requires : goal.some_at-requires
some_at-requires c = search (rules, somes)

pub returns-else-neg : goal.returns-else-neg
returns-else-neg c = search (rules, somes)

pub returns-in_default : goal.returns-in_default
returns-in_default c = search (rules, somes)
