-- Kind by kind: only a whole number without a sign is looked up.
use borrow.Author.Rules.{rules}
use Rattle.read_entities.proofs.Names.{names}
use Rattle.read_entities.proofs.naming.named_at.Goals as goal

pub enum_told-1 : goal.enum_told-1
enum_told-1 c = search (rules, names)

pub enum_known-v : goal.enum_known-v
enum_known-v c = search (rules, names)

pub returns-then-neg : goal.returns-then-neg
returns-then-neg c = search (rules, names)

pub class_at-requires : goal.class_at-requires
class_at-requires c = search (rules, names)

pub enum_told-in-Real : goal.enum_told-in-Real
enum_told-in-Real c = search (rules, names)

pub enum_told-in-Text : goal.enum_told-in-Text
enum_told-in-Text c = search (rules, names)

pub returns-in-Default : goal.returns-in-Default
returns-in-Default c = search (rules, names)

pub returns-else-neg : goal.returns-else-neg
returns-else-neg c = search (rules, names)

pub returns-in-Real : goal.returns-in-Real
returns-in-Real c = search (rules, names)

pub returns-in-Text : goal.returns-in-Text
returns-in-Text c = search (rules, names)
