-- A record that ends with its opening has no fields.
use borrow.Author.Rules.{rules}
use Rattle.print.proofs.Wholes.{wholes}
use Rattle.print_sheet.proofs.put_fields.Goals as goal

pub returns-then-last : goal.returns-then-last
returns-then-last c = search (rules, wholes)

pub put_globals-requires : goal.put_globals-requires
put_globals-requires c = search (rules, wholes)

pub shape_of-out : goal.shape_of-out
shape_of-out c = search (rules, wholes)

pub returns : goal.returns
returns c = search (rules, wholes)
