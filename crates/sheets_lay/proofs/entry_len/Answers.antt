-- The numbers with their tabs, the label; mark, tab and LF are three.
use borrow.Author.Rules.{rules}
use Rattle.sheets.proofs.Measured.{measured}
use Rattle.sheets_lay.proofs.entry_len.Goals as goal

pub in_order-xs-requires : goal.in_order-xs-requires
in_order-xs-requires c = search (rules, measured)

pub numbers_len-n-requires : goal.numbers_len-n-requires
numbers_len-n-requires c = search (rules, measured)

pub overflow_add-result : goal.overflow_add-result
overflow_add-result c = search (rules, measured)

pub overflow_add-result-2 : goal.overflow_add-result-2
overflow_add-result-2 c = search (rules, measured)

pub returns : goal.returns
returns c = search (rules, measured)
