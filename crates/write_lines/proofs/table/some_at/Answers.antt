-- An odd number below that of an entry too many names one.
use borrow.Author.Rules.{rules}
use Rattle.write_lines.proofs.Tables.{somes}
use Rattle.write_lines.proofs.table.some_at.Goals as goal

pub returns-then-number-ne1 : goal.returns-then-number-ne1
returns-then-number-ne1 c = search (rules, somes)

pub returns-then-n-i : goal.returns-then-n-i
returns-then-n-i c = search (rules, somes)

pub returns : goal.returns
returns c = search (rules, somes)
