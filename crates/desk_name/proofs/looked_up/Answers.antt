use borrow.Author.Rules.{rules}
use Rattle.desk_name.proofs.Naming.{in_file}
use Rattle.desk_name.proofs.looked_up.Goals as goal

pub in_directory-requires : goal.in_directory-requires
in_directory-requires c = search (rules, in_file)

pub returns-in-Err-clause-value : goal.returns-in-Err-clause-value
returns-in-Err-clause-value c = search (rules, in_file)

pub returns-in-Ok-clause-value : goal.returns-in-Ok-clause-value
returns-in-Ok-clause-value c = search (rules, in_file)
