-- The entry line, then the values.
use borrow.Author.Rules.{rules}
use Rattle.print_sheet.proofs.Rowed.{rowed}
use Rattle.print_sheet.proofs.rows.put_entity.Goals as goal

pub put_entry_line-a-requires : goal.put_entry_line-a-requires
put_entry_line-a-requires c = search (rules, rowed)

pub put_values-requires : goal.put_values-requires
put_values-requires c = search (rules, rowed)

pub shape_of-out : goal.shape_of-out
shape_of-out c = search (rules, rowed)

pub returns : goal.returns
returns c = search (rules, rowed)
