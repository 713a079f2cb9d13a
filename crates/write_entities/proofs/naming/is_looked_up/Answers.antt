-- A table of classes is always asked; else the place decides.
use borrow.Author.Rules.{rules}
use Rattle.write_entities.proofs.Typed.{looks}
use Rattle.write_entities.proofs.naming.is_looked_up.Goals as goal

pub returns-then-n-le-TABLE : goal.returns-then-n-le-TABLE
returns-then-n-le-TABLE c = search (rules, looks)

pub look-p-requires : goal.look-p-requires
look-p-requires c = search (rules, looks)

pub asks_type-requires : goal.asks_type-requires
asks_type-requires c = search (rules, looks)

pub returns : goal.returns
returns c = search (rules, looks)
