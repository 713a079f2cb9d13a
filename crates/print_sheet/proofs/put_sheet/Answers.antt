-- The parts, one after the other.
use borrow.Author.Rules.{rules}
use Rattle.print.proofs.Wholes.{wholes}
use Rattle.print_sheet.proofs.put_sheet.Goals as goal

pub overflow_mul-base : goal.overflow_mul-base
overflow_mul-base c = search (rules, wholes)

pub overflow_add-first : goal.overflow_add-first
overflow_add-first c = search (rules, wholes)

pub put_starts-a-requires : goal.put_starts-a-requires
put_starts-a-requires c = search (rules, wholes)

pub put_fields-b-requires : goal.put_fields-b-requires
put_fields-b-requires c = search (rules, wholes)

pub put_rows-requires : goal.put_rows-requires
put_rows-requires c = record { printable = search (rules, wholes); at_bound = search (rules, wholes); rows_read = search (rules, wholes) }

pub shape_of-out : goal.shape_of-out
shape_of-out c = search (rules, wholes)

pub returns : goal.returns
returns c = search (rules, wholes)
