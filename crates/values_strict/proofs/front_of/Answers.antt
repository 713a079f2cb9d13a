-- `values_strict::front_of`: the first H is where it is found.
use borrow.Author.Rules.{rules}
use Rattle.values.proofs.Fronts.{front_short, front-one, front-two, front_whole, front-three, front_all}
use Rattle.values_strict.proofs.front_of.Goals as goal

pub returns-then-n-lt3 : goal.returns-then-n-lt3
returns-then-n-lt3 c = record { value = search (rules, front_short); upper_bound = search rules }

pub bounds-l-1 : goal.bounds-l-1
bounds-l-1 c = search rules

pub returns-then-l-eq72 : goal.returns-then-l-eq72
returns-then-l-eq72 c = record { value = search (rules, front-one); upper_bound = search rules }

pub bounds-l-2 : goal.bounds-l-2
bounds-l-2 c = search rules

pub returns-then-l-eq72-2 : goal.returns-then-l-eq72-2
returns-then-l-eq72-2 c = record { value = search (rules, front-two); upper_bound = search rules }

pub returns-then-n-lt4 : goal.returns-then-n-lt4
returns-then-n-lt4 c = record { value = search (rules, front_whole); upper_bound = search rules }

pub bounds-l-3 : goal.bounds-l-3
bounds-l-3 c = search rules

pub returns-then-l-eq72-3 : goal.returns-then-l-eq72-3
returns-then-l-eq72-3 c = record { value = search (rules, front-three); upper_bound = search rules }

pub returns : goal.returns
returns c = record { value = search (rules, front_all); upper_bound = search rules }
