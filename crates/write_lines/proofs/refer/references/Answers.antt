use Rattle.std.proofs.Common.{rules}
use Rattle.write_lines.proofs.Naming.{referring, refer-on}
use Rattle.write_lines.proofs.refer.references.Goals as goal

pub loop-at-preserved : goal.loop-at-preserved
loop-at-preserved c = (search (rules, referring), search (rules, referring), search (rules, referring), search (rules, refer-on, c.in_ok-reference_of.was))
