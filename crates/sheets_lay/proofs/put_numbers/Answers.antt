use Rattle.std.proofs.Common.{rules}
use Rattle.sheets.proofs.Written.{written}
use Rattle.sheets_lay.proofs.put_numbers.Goals as goal

pub loop-k-preserved : goal.loop-k-preserved
loop-k-preserved c = (search (rules, written), search (rules, written), search (rules, written))
