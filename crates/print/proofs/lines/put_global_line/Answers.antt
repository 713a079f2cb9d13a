-- The head, the characters, LF.
use borrow.Author.Rules.{rules}
use Rattle.print.proofs.Texts.{lined}
use Rattle.print.proofs.lines.put_global_line.Goals as goal

pub put_global_head-a-requires : goal.put_global_head-a-requires
put_global_head-a-requires c = search (rules, lined)

pub put_chars-b-requires : goal.put_chars-b-requires
put_chars-b-requires c = record { stands = search (rules, lined); writable = search (rules, lined); at_bound = search (rules, lined) }

pub put-requires : goal.put-requires
put-requires c = search (rules, lined)

pub shape_of-out : goal.shape_of-out
shape_of-out c = search (rules, lined)

pub returns : goal.returns
returns c = search (rules, lined)
