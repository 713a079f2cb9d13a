-- Where the P lines stand in the file, so does the record.
use borrow.Author.Rules.{rules}
use Rattle.print_sheet.proofs.Rowed.{row}
use Rattle.print_sheet.proofs.rows.put_spelt.Goals as goal

pub before-b-requires : goal.before-b-requires
before-b-requires c = search (rules, row)

pub wide-lines-requires : goal.wide-lines-requires
wide-lines-requires c = search (rules, row)

pub overflow_add-base : goal.overflow_add-base
overflow_add-base c = search (rules, row)

pub overflow_mul-base : goal.overflow_mul-base
overflow_mul-base c = search (rules, row)

pub overflow_mul-end : goal.overflow_mul-end
overflow_mul-end c = search (rules, row)

pub overflow_add-end : goal.overflow_add-end
overflow_add-end c = search (rules, row)

pub returns-then-file-end : goal.returns-then-file-end
returns-then-file-end c = search (rules, row)

pub overflow_mul-k : goal.overflow_mul-k
overflow_mul-k c = search (rules, row)

pub overflow_add-k : goal.overflow_add-k
overflow_add-k c = search (rules, row)

pub entry_number-number-requires : goal.entry_number-number-requires
entry_number-number-requires c = search (rules, row)

pub put_entity-requires : goal.put_entity-requires
put_entity-requires c = record {
  values_stand = record {
    stands = search (rules, row);
    parameter = search rules;
    closing = search rules;
    directory_there = search rules;
    unrefused = search (rules, row);
  };
  line_bytes_in_bounds = search rules;
  at_bound = search rules;
}

pub shape_of-out : goal.shape_of-out
shape_of-out c = search (rules, row)

pub returns : goal.returns
returns c = search (rules, row)
