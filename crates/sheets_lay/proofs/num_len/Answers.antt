-- At least eight digits for the status, plain decimal for the others.
use borrow.Author.Rules.{rules}
use Rattle.sheets.proofs.Measured.{measured}
use Rattle.sheets_lay.proofs.num_len.Goals as goal

pub count_signed-requires : goal.count_signed-requires
count_signed-requires c = search (rules, measured)

pub returns-then-left-ne3 : goal.returns-then-left-ne3
returns-then-left-ne3 c = search (rules, measured)

pub overflow_cast-x : goal.overflow_cast-x
overflow_cast-x c = search (rules, measured)

pub count_digits-count-requires : goal.count_digits-count-requires
count_digits-count-requires c = search (rules, measured)

pub returns-then-count-lt-FIELD_COLUMNS : goal.returns-then-count-lt-FIELD_COLUMNS
returns-then-count-lt-FIELD_COLUMNS c = search (rules, measured)

pub returns-else-count-lt-FIELD_COLUMNS : goal.returns-else-count-lt-FIELD_COLUMNS
returns-else-count-lt-FIELD_COLUMNS c = search (rules, measured)
