-- A default has no line.
use borrow.Author.Rules.{rules}
use Rattle.print.proofs.Given.{given-lines}
use Rattle.print_globals.proofs.put_given.Goals as goal

pub is_missing-requires : goal.is_missing-requires
is_missing-requires c = search (rules, given-lines)

pub returns-then-is_missing : goal.returns-then-is_missing
returns-then-is_missing c = search (rules, given-lines)

pub put_global_line-requires : goal.put_global_line-requires
put_global_line-requires c = search (rules, given-lines)

pub shape_of-out : goal.shape_of-out
shape_of-out c = search (rules, given-lines)

pub returns : goal.returns
returns c = search (rules, given-lines)
