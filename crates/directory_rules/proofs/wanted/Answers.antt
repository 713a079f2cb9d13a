use borrow.Author.Rules.{rules}
use Rattle.directory.proofs.Asked.{wanting}
use Rattle.directory_rules.proofs.wanted.Goals as goal

pub returns-then-j-eq0 : goal.returns-then-j-eq0
returns-then-j-eq0 c = search (rules, wanting)

pub returns-then-j-eq1 : goal.returns-then-j-eq1
returns-then-j-eq1 c = search (rules, wanting)

pub returns-then-j-eq2 : goal.returns-then-j-eq2
returns-then-j-eq2 c = search (rules, wanting)

pub returns-then-j-eq3 : goal.returns-then-j-eq3
returns-then-j-eq3 c = search (rules, wanting)

pub returns-then-j-eq4 : goal.returns-then-j-eq4
returns-then-j-eq4 c = search (rules, wanting)

pub returns-then-j-eq5 : goal.returns-then-j-eq5
returns-then-j-eq5 c = search (rules, wanting)

pub returns : goal.returns
returns c = search (rules, wanting)
