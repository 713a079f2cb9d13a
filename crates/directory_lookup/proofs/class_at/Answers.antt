-- An even number and one past the last entry name none; another names the entry whose type stands on its first D line.
use borrow.Author.Rules.{rules}
use Rattle.directory_lookup.proofs.Names.{names}
use Rattle.directory_lookup.proofs.class_at.Goals as goal

pub returns-then-number-ne1 : goal.returns-then-number-ne1
returns-then-number-ne1 c = search (rules, names)

pub overflow_cast-i : goal.overflow_cast-i
overflow_cast-i c = search (rules, names)

pub returns-then-n-i : goal.returns-then-n-i
returns-then-n-i c = search (rules, names)

pub overflow_mul-i : goal.overflow_mul-i
overflow_mul-i c = search (rules, names)

pub overflow_add-first : goal.overflow_add-first
overflow_add-first c = search (rules, names)

pub type_at-typ-requires : goal.type_at-typ-requires
type_at-typ-requires c = search (rules, names)

pub class_of-requires : goal.class_of-requires
class_of-requires c = search (rules, names)

pub returns : goal.returns
returns c = search (rules, names)
