-- A default is not measured yet; a value is, with those owed.
use borrow.Author.Rules.{rules}
use Rattle.read_entities.proofs.Walks.{measures}
use Rattle.read_walk.proofs.length_after.Goals as goal

pub enum_told-1 : goal.enum_told-1
enum_told-1 c = search rules

pub enum_known-v : goal.enum_known-v
enum_known-v c = search rules

pub overflow_mul-result : goal.overflow_mul-result
overflow_mul-result c = search rules

pub overflow_add-result : goal.overflow_add-result
overflow_add-result c = search rules

pub overflow_add-result-in-Whole : goal.overflow_add-result-in-Whole
overflow_add-result-in-Whole c = search rules

pub whole_len-requires : goal.whole_len-requires
whole_len-requires c = search rules

pub overflow_add-result-in-Whole-2 : goal.overflow_add-result-in-Whole-2
overflow_add-result-in-Whole-2 c = search rules

pub enum_known-v-in-Real-1 : goal.enum_known-v-in-Real-1
enum_known-v-in-Real-1 c = search rules

pub overflow_mul-result-in-Real : goal.overflow_mul-result-in-Real
overflow_mul-result-in-Real c = search rules

pub overflow_add-result-in-Real : goal.overflow_add-result-in-Real
overflow_add-result-in-Real c = search rules

pub overflow_add-result-in-Real-2 : goal.overflow_add-result-in-Real-2
overflow_add-result-in-Real-2 c = search rules

pub real_len-requires : goal.real_len-requires
real_len-requires c = search rules

pub overflow_add-result-in-Real-3 : goal.overflow_add-result-in-Real-3
overflow_add-result-in-Real-3 c = search rules

pub enum_known-v-in-Text-1 : goal.enum_known-v-in-Text-1
enum_known-v-in-Text-1 c = search rules

pub overflow_mul-result-in-Text : goal.overflow_mul-result-in-Text
overflow_mul-result-in-Text c = search rules

pub overflow_add-result-in-Text : goal.overflow_add-result-in-Text
overflow_add-result-in-Text c = search rules

pub overflow_add-result-in-Text-2 : goal.overflow_add-result-in-Text-2
overflow_add-result-in-Text-2 c = search rules

pub head_len-requires : goal.head_len-requires
head_len-requires c = search rules

pub overflow_add-result-in-Text-3 : goal.overflow_add-result-in-Text-3
overflow_add-result-in-Text-3 c = search rules

pub overflow_add-result-in-Text-4 : goal.overflow_add-result-in-Text-4
overflow_add-result-in-Text-4 c = search (rules, measures)

pub returns-in-Default : goal.returns-in-Default
returns-in-Default c = search rules

pub returns-in-Whole : goal.returns-in-Whole
returns-in-Whole c = search (rules, measures)

pub returns-in-Real : goal.returns-in-Real
returns-in-Real c = search (rules, measures)

pub returns-in-Text : goal.returns-in-Text
returns-in-Text c = search (rules, measures)
