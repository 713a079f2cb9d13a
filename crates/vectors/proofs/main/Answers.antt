-- What was read is no more than the buffer has.
use Rattle.std.proofs.Common.{arith, length-take}
use Rattle.vectors.proofs.main.Goals as goal

pub slice_bounds-all-end : goal.slice_bounds-all-end
slice_bounds-all-end c = simp length-take (omega arith)
