-- The class of the type that is read, if that is a plain number.
use borrow.Author.Rules.{rules}
use Rattle.write_lines.proofs.Showing.{shows}
use Rattle.write_lines.proofs.far.class_typed.Goals as goal

pub returns-then-typ-gt-MOST_INTEGER_WIDE : goal.returns-then-typ-gt-MOST_INTEGER_WIDE
returns-then-typ-gt-MOST_INTEGER_WIDE c = search (rules, shows)

pub returns : goal.returns
returns c = search (rules, shows)
