use borrow.Author.Rules.{rules}
use Rattle.read_passes.proofs.Referring.{refers}
use Rattle.read_directory.proofs.refer.reference_check.Goals as goal

pub returns-then-all_ask_ok : goal.returns-then-all_ask_ok
returns-then-all_ask_ok c = search (rules, refers)

pub returns : goal.returns
returns c = search (rules, refers)
