-- A string's characters are a part of src; no other value has any.
use borrow.Author.Rules.{rules}
use Rattle.records.proofs.Puts.{tails, text_tails}
use Rattle.records_flow.proofs.put_tail.Goals as goal

pub delimiter_of-x-requires : goal.delimiter_of-x-requires
delimiter_of-x-requires c = search (rules, tails)

pub enum_told-1 : goal.enum_told-1
enum_told-1 c = search (rules, tails)

pub put_char-requires : goal.put_char-requires
put_char-requires c = search (rules, tails)

pub enum_told-in-Whole : goal.enum_told-in-Whole
enum_told-in-Whole c = search (rules, tails)

pub put_char-requires-in-Whole : goal.put_char-requires-in-Whole
put_char-requires-in-Whole c = search (rules, tails)

pub enum_told-in-Real : goal.enum_told-in-Real
enum_told-in-Real c = search (rules, tails)

pub put_char-requires-in-Real : goal.put_char-requires-in-Real
put_char-requires-in-Real c = search (rules, tails)

pub enum_known-v : goal.enum_known-v
enum_known-v c = search (rules, tails)

pub overflow_add-end : goal.overflow_add-end
overflow_add-end c = search (rules, text_tails)

pub slice_bounds-put_all-count : goal.slice_bounds-put_all-count
slice_bounds-put_all-count c = search (rules, text_tails)

pub slice_bounds-put_all-start : goal.slice_bounds-put_all-start
slice_bounds-put_all-start c = search (rules, text_tails)

pub slice_bounds-put_all-end : goal.slice_bounds-put_all-end
slice_bounds-put_all-end c = search (rules, text_tails)

pub put_all-e-requires : goal.put_all-e-requires
put_all-e-requires c = search (rules, text_tails)

pub put_char-requires-in-Text : goal.put_char-requires-in-Text
put_char-requires-in-Text c = search (rules, text_tails)

pub shape_of-out-in-Default : goal.shape_of-out-in-Default
shape_of-out-in-Default c = search (rules, tails)

pub returns-in-Default : goal.returns-in-Default
returns-in-Default c = search (rules, tails)

pub shape_of-out-in-Whole : goal.shape_of-out-in-Whole
shape_of-out-in-Whole c = search (rules, tails)

pub returns-in-Whole : goal.returns-in-Whole
returns-in-Whole c = search (rules, tails)

pub shape_of-out-in-Real : goal.shape_of-out-in-Real
shape_of-out-in-Real c = search (rules, tails)

pub returns-in-Real : goal.returns-in-Real
returns-in-Real c = search (rules, tails)

pub shape_of-out-in-Text : goal.shape_of-out-in-Text
shape_of-out-in-Text c = search (rules, text_tails)

pub returns-in-Text : goal.returns-in-Text
returns-in-Text c = record { put = search (rules, text_tails); lower_bound = (search (rules, text_tails), search (rules, text_tails)) }
