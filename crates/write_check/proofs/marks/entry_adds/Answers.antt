-- By the byte.
use Rattle.std.proofs.Common.{rules}
use Rattle.write_check.proofs.Marking.{adding}
use Rattle.write_check.proofs.marks.entry_adds.Goals as goal

pub returns-then-b-eq69 : goal.returns-then-b-eq69
returns-then-b-eq69 c = search (rules, adding)

pub returns-then-b-eq85 : goal.returns-then-b-eq85
returns-then-b-eq85 c = search (rules, adding)

pub returns : goal.returns
returns c = search (rules, adding)
