-- Where no type is asked for any class of an entry does.
use borrow.Author.Rules.{rules}
use Rattle.write_entities.proofs.Typed.{named_as_asked}
use Rattle.write_entities.proofs.naming.named_for.Goals as goal

pub is_looked_up-requires : goal.is_looked_up-requires
is_looked_up-requires c = search (rules, named_as_asked)

pub named_at-requires : goal.named_at-requires
named_at-requires c = search (rules, named_as_asked)

pub returns-then-is_looked_up : goal.returns-then-is_looked_up
returns-then-is_looked_up c = search (rules, named_as_asked)

pub some_named-requires : goal.some_named-requires
some_named-requires c = search (rules, named_as_asked)

pub returns : goal.returns
returns c = search (rules, named_as_asked)
