-- sheets_read/proofs/numbers/Answers.antt
-- Behind the loop all thirteen numbers are read, and the label tells.
use Rattle.std.proofs.Common.{arith, rules}
use Rattle.sheets_read.proofs.Entries.{numbers_more, label_good, label_bad}
use Rattle.sheets_read.proofs.numbers.Goals as goal

pub loop-k-preserved : goal.loop-k-preserved
loop-k-preserved c = search (rules, numbers_more)

pub returns-then-is_printable : goal.returns-then-is_printable
returns-then-is_printable c =
    label_good c.loop-k.invariant (omega arith) (omega arith) _ _ c.if-end-i-ne-FIELD_COLUMNS.false c.is_printable.ensures c.if-is_printable.true (omega arith) c.entry_from.ensures

pub returns : goal.returns
returns c =
    label_bad c.loop-k.invariant (omega arith) (omega arith) _ c.if-end-i-ne-FIELD_COLUMNS.false c.is_printable.ensures c.if-is_printable.false
