use Rattle.std.proofs.Common.{rules}
use Rattle.sheets.proofs.Measured.{measured}
use Rattle.sheets_lay.proofs.numbers_len.Goals as goal

pub loop-k-preserved : goal.loop-k-preserved
loop-k-preserved c = (search (rules, measured), search (rules, measured))

pub returns-clause-value : goal.returns-clause-value
returns-clause-value c = search (rules, measured)
