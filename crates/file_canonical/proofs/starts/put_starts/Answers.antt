use borrow.Author.Rules.{rules}
use Rattle.file_canonical.proofs.Started.{starts}
use Rattle.file_canonical.proofs.starts.put_starts.Goals as goal

pub loop-k-preserved : goal.loop-k-preserved
loop-k-preserved c = search (rules, starts)

pub returns-clause-wrote : goal.returns-clause-wrote
returns-clause-wrote c = search (rules, starts)

pub returns-clause-result_value : goal.returns-clause-result_value
returns-clause-result_value c = search (rules, starts)
