-- `values_read::before_of`: with no sign the digits are those with which the text begins.
use borrow.Author.Rules.{rules}
use Rattle.values.proofs.Steps.{numbered}
use Rattle.values_read.proofs.before_of.Goals as goal

pub returns-then-a-eq0 : goal.returns-then-a-eq0
returns-then-a-eq0 c = search (rules, numbered)

pub scan_at-requires : goal.scan_at-requires
scan_at-requires c = search (rules, numbered)

pub returns : goal.returns
returns c = search (rules, numbered)
