-- Where start lines stand, the first of them.
use borrow.Author.Rules.{rules}
use Rattle.file_canonical.proofs.Started.{starts}
use Rattle.file_canonical.proofs.starts.start_end.Goals as goal

pub end_of-requires : goal.end_of-requires
end_of-requires c = search (rules, starts)

pub returns : goal.returns
returns c = search (rules, starts)
