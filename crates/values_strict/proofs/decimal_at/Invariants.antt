-- The digits so far and those left are all of the number, and it has as many as were passed.
use Rattle.std.proofs.Common.{◌≡◌, ◌+◌, ◌-◌, ◌^◌, ◌<◌, drop}
use Rattle.values.specs.Direct.{longer, decimal}
use Rattle.values.proofs.Backs.{Long}
use Rattle.values_strict.proofs.decimal_at.Given as goal

abbrev pub invariant-loop-k : goal.invariant-loop-k
invariant-loop-k l =
    (longer (drop l.k l.l) l.v l.k ≡ decimal (drop l.at l.l) l.at) × (l.at < l.k) × (l.v < 10 ^ 17) × Long l.v (l.k - (l.at + 1))
