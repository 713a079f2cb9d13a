-- The record stands in the file, and the types read off the D lines are those of all entries.
use borrow.Author.Rules.{rules}
use Rattle.read_weights.proofs.Entity.{records}
use Rattle.read_weights.proofs.record_answer.Goals as goal

pub wide-total-requires : goal.wide-total-requires
wide-total-requires c = search (rules, records)

pub entry_line-first-requires : goal.entry_line-first-requires
entry_line-first-requires c = search (rules, records)

pub parameter_line-from-requires : goal.parameter_line-from-requires
parameter_line-from-requires c = search (rules, records)

pub overflow_mul-base : goal.overflow_mul-base
overflow_mul-base c = search (rules, records)

pub wide-count-requires : goal.wide-count-requires
wide-count-requires c = search (rules, records)

pub entity_pass-requires : goal.entity_pass-requires
entity_pass-requires c = search (rules, records)

pub returns : goal.returns
returns c = record { answer_value = search (rules, records); length_value = (search (rules, records), search (rules, records)) }
