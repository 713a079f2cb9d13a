-- `values_strict::strict`: by what stands behind the digits; reading straight is strict reading.
use borrow.Author.Rules.{rules}
use Rattle.values.proofs.Backs.{backs}
use Rattle.values_strict.proofs.strict.Goals as goal

pub returns-then-l-eq0 : goal.returns-then-l-eq0
returns-then-l-eq0 c = search (rules, backs)

pub bounds-l-0 : goal.bounds-l-0
bounds-l-0 c = search (rules, backs)

pub minus_len-a-requires : goal.minus_len-a-requires
minus_len-a-requires c = search (rules, backs)

pub decimal_at-x-requires : goal.decimal_at-x-requires
decimal_at-x-requires c = search (rules, backs)

pub returns-then-i-a : goal.returns-then-i-a
returns-then-i-a c = search (rules, backs)

pub as_whole-requires : goal.as_whole-requires
as_whole-requires c = search (rules, backs)

pub returns-then-i-l : goal.returns-then-i-l
returns-then-i-l c = search (rules, backs)

pub bounds-l-i : goal.bounds-l-i
bounds-l-i c = search (rules, backs)

pub overflow_add-i : goal.overflow_add-i
overflow_add-i c = search (rules, backs)

pub behind_point-requires : goal.behind_point-requires
behind_point-requires c = search (rules, backs)

pub returns-then-c-eq46 : goal.returns-then-c-eq46
returns-then-c-eq46 c = search (rules, backs)

pub overflow_add-i-then-c-eq72 : goal.overflow_add-i-then-c-eq72
overflow_add-i-then-c-eq72 c = search (rules, backs)

pub behind_count-requires : goal.behind_count-requires
behind_count-requires c = search (rules, backs)

pub returns-then-c-eq72 : goal.returns-then-c-eq72
returns-then-c-eq72 c = search (rules, backs)

pub returns : goal.returns
returns c = search (rules, backs)
