-- The opening of a file that was accepted is there, and what is printed behind it is its sheet.
use borrow.Author.Rules.{rules}
use Rattle.read_file.proofs.Reading.{sheets}
use Rattle.read_file.proofs.Records.{records-read}
use Rattle.read_file.proofs.sheet.put_file.Goals as goal

pub wide-s-requires : goal.wide-s-requires
wide-s-requires c = search (rules, sheets)

pub wide-g-requires : goal.wide-g-requires
wide-g-requires c = search (rules, sheets)

pub wide-n-requires : goal.wide-n-requires
wide-n-requires c = search (rules, sheets)

pub parameter_line-first-requires : goal.parameter_line-first-requires
parameter_line-first-requires c = search (rules, sheets)

pub overflow_mul-s : goal.overflow_mul-s
overflow_mul-s c = search (rules, sheets)

pub opening_of-opening-requires : goal.opening_of-opening-requires
opening_of-opening-requires c = search (rules, sheets)

pub enum_known-opening : goal.enum_known-opening
enum_known-opening c = search (rules, sheets)

pub returns-in_default : goal.returns-in_default
returns-in_default c = search (rules, sheets)

pub put_sheet-requires : goal.put_sheet-requires
put_sheet-requires c = record {
  printable = search (rules, sheets, records-read);
  from_bound = search (rules, sheets, records-read);
  at_bound = search (rules, sheets, records-read);
  rows_read = search (rules, sheets, records-read);
}

pub shape_of-out : goal.shape_of-out
shape_of-out c = search (rules, sheets)

pub returns : goal.returns
returns c = search (rules, sheets)
