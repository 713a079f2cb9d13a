use Rattle.std.proofs.Common.{rules}
use Rattle.values.proofs.Steps.{scans}
use Rattle.values_digits.proofs.many_at.Goals as goal

pub loop-k-preserved : goal.loop-k-preserved
loop-k-preserved c = (search (rules, scans), search (rules, scans), search (rules, scans), search (rules, scans))
