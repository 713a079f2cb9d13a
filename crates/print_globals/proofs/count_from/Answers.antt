use borrow.Author.Rules.{rules}
use Rattle.print.proofs.Given.{counting}
use Rattle.print_globals.proofs.count_from.Goals as goal

pub returns-in-Err-clause-result_value : goal.returns-in-Err-clause-result_value
returns-in-Err-clause-result_value c = search (rules, counting)

pub returns-in-Ok-clause-result_value : goal.returns-in-Ok-clause-result_value
returns-in-Ok-clause-result_value c = search (rules, counting)
