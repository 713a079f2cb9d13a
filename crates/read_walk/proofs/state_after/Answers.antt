-- A default is owed; a value is stepped behind those owed, and where it runs on there is one less of its place.
use borrow.Author.Rules.{rules}
use Rattle.read_entities.proofs.Walks.{states}
use Rattle.read_walk.proofs.state_after.Goals as goal

pub is_missing-requires : goal.is_missing-requires
is_missing-requires c = search rules

pub returns-then-is_missing : goal.returns-then-is_missing
returns-then-is_missing c = search (rules, states)

pub enum_told-1 : goal.enum_told-1
enum_told-1 c = search rules

pub enum_known-g : goal.enum_known-g
enum_known-g c = search rules

pub runs_on-requires : goal.runs_on-requires
runs_on-requires c = search rules

pub overflow_sub-s : goal.overflow_sub-s
overflow_sub-s c = search (rules, states)

pub with_left-requires : goal.with_left-requires
with_left-requires c = search rules

pub returns-then-runs_on : goal.returns-then-runs_on
returns-then-runs_on c = search (rules, states)

pub with_left-requires-in-Some : goal.with_left-requires-in-Some
with_left-requires-in-Some c = search rules

pub behind_defaults-h-requires : goal.behind_defaults-h-requires
behind_defaults-h-requires c = search rules

pub mark_step-requires : goal.mark_step-requires
mark_step-requires c = search rules

pub returns-in-None : goal.returns-in-None
returns-in-None c = search (rules, states)

pub returns-after-owed-eq0 : goal.returns-after-owed-eq0
returns-after-owed-eq0 c = search (rules, states)
