-- The digits left, with the number so far, say what all say.
use mathlib.Core.Path.{◌≡◌}
use Prim.Native.Nat.{◌-◌, ◌^◌, ◌<◌}
use lib.ListN.{take, drop}
use Rattle.columns.specs.Columns.{columns}
use Rattle.columns.specs.Fixed.{digits_of}
use Rattle.columns_fixed.proofs.digits.Given as goal

abbrev pub invariant-loop-b : goal.invariant-loop-b
invariant-loop-b l =
    (l.n < 10 ^ l.b-index) × (digits_of l.n (drop l.b-index (take (l.end - l.at) (drop l.at l.s))) ≡ digits_of 0 (columns l.s l.at l.end))
