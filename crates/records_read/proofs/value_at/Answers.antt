use borrow.Author.Rules.{rules}
use Rattle.records_read.proofs.Laws.{ends_laws}
use Rattle.records_read.proofs.value_at.Goals as goal

pub returns-in-Delimiter-clause-value : goal.returns-in-Delimiter-clause-value
returns-in-Delimiter-clause-value c = search (rules, ends_laws)

pub returns-in-Delimiter-clause-sane : goal.returns-in-Delimiter-clause-sane
returns-in-Delimiter-clause-sane c = search (rules, ends_laws)

pub returns-in-Other-clause-value : goal.returns-in-Other-clause-value
returns-in-Other-clause-value c = search (rules, ends_laws)

pub returns-in-Other-clause-sane : goal.returns-in-Other-clause-sane
returns-in-Other-clause-sane c = search (rules, ends_laws)
