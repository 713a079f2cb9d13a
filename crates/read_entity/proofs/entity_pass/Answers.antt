-- The first value by itself, the others by the walk: a refusal of any of them goes before all else.
use borrow.Author.Rules.{rules}
use Rattle.read_entity.proofs.Weighing.{passes}
use Rattle.read_entity.proofs.entity_pass.Goals as goal

pub value_at-g-requires : goal.value_at-g-requires
value_at-g-requires c = search (rules, passes)

pub enum_known-g : goal.enum_known-g
enum_known-g c = search (rules, passes)

pub is_type-typed-requires : goal.is_type-typed-requires
is_type-typed-requires c = search (rules, passes)

pub known-inside-requires : goal.known-inside-requires
known-inside-requires c = search (rules, passes)

pub marks_begun-begun-requires : goal.marks_begun-begun-requires
marks_begun-begun-requires c = search (rules, passes)

pub pass_answer-answer-requires : goal.pass_answer-answer-requires
pass_answer-answer-requires c = search (rules, passes)

pub returns-then-last : goal.returns-then-last
returns-then-last c = record {
  answer_value = search (rules, passes);
  length_value = search (rules, passes);
  length_bound = search (rules, passes);
}

pub walk-walked-requires : goal.walk-walked-requires
walk-walked-requires c = search (rules, passes)

pub weighed_by-requires : goal.weighed_by-requires
weighed_by-requires c = search (rules, passes)

pub returns-in-Err : goal.returns-in-Err
returns-in-Err c = record {
  answer_value = search (rules, passes);
  length_value = search (rules, passes);
  length_bound = search (rules, passes);
}

pub returns-else-last : goal.returns-else-last
returns-else-last c = record {
  answer_value = search (rules, passes);
  length_value = search (rules, passes);
  length_bound = search (rules, passes);
}
