-- Values that a record can hold, one by one, are together a record that is read back and whose bytes a line may hold. Assumes nothing.
use mathlib.Core.List.{List}
use Prim.Native.Nat.{◌≤◌}
use native.Mathlib.Omega.{arith}
use lib.ListN.{length}
use Rattle.values.specs.Value.{Item}
use Rattle.records.specs.Flow.{Fines, fine_one, fine_more, Prints}
use Rattle.sheets.specs.WellFormed.{Each, none, one, Held}

-- one value at least
pub fines : {vs : List Item} → Each Held vs → 1 ≤ length vs → Fines vs
fines none h = absurd (omega arith)
fines (one p none) h = fine_one p.fine
fines (one p (one q qs)) h = fine_more p.fine (fines (one q qs) (omega arith))

pub prints : {vs : List Item} → Each Held vs → Prints vs
prints none = tt
prints (one p ps) = (p.printed, prints ps)
