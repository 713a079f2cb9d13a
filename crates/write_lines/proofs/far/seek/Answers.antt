-- The place that the table leads to is one of the sheet.
use native.Mathlib.Omega.{arith}
use lib.ListN.{length}
use Rattle.write_lines.proofs.Showing.{part-within}
use Rattle.write_lines.proofs.far.seek.Goals as goal

pub overflow_mul-from : goal.overflow_mul-from
overflow_mul-from c =
    omega (arith, part-within c.part_of-q.result (length c.args.t.now) c.part_of-q.ensures)

pub overflow_add-from : goal.overflow_add-from
overflow_add-from c =
    omega (arith, part-within c.part_of-q.result (length c.args.t.now) c.part_of-q.ensures)
