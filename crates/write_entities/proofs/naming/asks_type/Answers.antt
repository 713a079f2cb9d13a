-- Only references ask, and only some of them.
use borrow.Author.Rules.{rules}
use Rattle.write_entities.proofs.Typed.{looks}
use Rattle.write_entities.proofs.naming.asks_type.Goals as goal

pub enum_known-k : goal.enum_known-k
enum_known-k c = search (rules, looks)

pub enum_known-k-in-Q-1 : goal.enum_known-k-in-Q-1
enum_known-k-in-Q-1 c = search (rules, looks)

pub enum_known-k-in-Bound-1 : goal.enum_known-k-in-Bound-1
enum_known-k-in-Bound-1 c = search (rules, looks)

pub returns-in-P : goal.returns-in-P
returns-in-P c = search (rules, looks)

pub returns-in-Q : goal.returns-in-Q
returns-in-Q c = search (rules, looks)

pub returns-in-Bound : goal.returns-in-Bound
returns-in-Bound c = search (rules, looks)

pub returns-in_default : goal.returns-in_default
returns-in_default c = search (rules, looks)
