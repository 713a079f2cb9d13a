-- Below the number of rows it is the bit of the row; past it there is no row.
use borrow.Author.Rules.{rules}
use Rattle.layouts.proofs.Tables.{known-bit, known-not}
use Rattle.layouts_lists.proofs.known.Goals as goal

pub bit_of-k-requires : goal.bit_of-k-requires
bit_of-k-requires c = search rules

pub overflow_shr-result : goal.overflow_shr-result
overflow_shr-result c = search rules

pub returns-then-k-lt-ROWS : goal.returns-then-k-lt-ROWS
returns-then-k-lt-ROWS c = known-bit _ _ c.args.form _ c.bit_of-k.ensures c.if-k-lt-ROWS.true

pub returns-else-k-lt-ROWS : goal.returns-else-k-lt-ROWS
returns-else-k-lt-ROWS c = known-not _ _ c.args.form _ c.bit_of-k.ensures c.if-k-lt-ROWS.false
