-- The opening of a file that was accepted is there; the S lines and the G lines are measured, and with what stands behind them they are its sheet.
use borrow.Author.Rules.{rules}
use Rattle.read_file.proofs.Reading.{measures}
use Rattle.read_file.proofs.sheet.measure.Goals as goal

pub wide-s-requires : goal.wide-s-requires
wide-s-requires c = search (rules, measures)

pub wide-g-requires : goal.wide-g-requires
wide-g-requires c = search (rules, measures)

pub overflow_mul-base : goal.overflow_mul-base
overflow_mul-base c = search (rules, measures)

pub opening_of-opening-requires : goal.opening_of-opening-requires
opening_of-opening-requires c = search (rules, measures)

pub enum_known-opening : goal.enum_known-opening
enum_known-opening c = search (rules, measures)

pub returns-in_default : goal.returns-in_default
returns-in_default c = search (rules, measures)

pub slice_bounds-put_starts-end : goal.slice_bounds-put_starts-end
slice_bounds-put_starts-end c = search (rules, measures)

pub put_starts-starts-requires : goal.put_starts-starts-requires
put_starts-starts-requires c = search (rules, measures)

pub fields_len-fields-requires : goal.fields_len-fields-requires
fields_len-fields-requires c = search (rules, measures)

pub overflow_add-result : goal.overflow_add-result
overflow_add-result c = search (rules, measures)

pub overflow_add-result-2 : goal.overflow_add-result-2
overflow_add-result-2 c = search (rules, measures)

pub returns : goal.returns
returns c = search (rules, measures)
