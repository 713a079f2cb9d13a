use Rattle.std.proofs.Common.{rules}
use Rattle.values.proofs.Backs.{decimals}
use Rattle.values_strict.proofs.decimal_at.Goals as goal

pub loop-k-preserved : goal.loop-k-preserved
loop-k-preserved c = search (rules, decimals)
