-- Demand 2: each parameter line belongs to exactly one entity. Assumes nothing.
use native.Mathlib.Omega.{arith}
use Rattle.desk.specs.Demands.{OneOwner}

pub one_owner : OneOwner
one_owner list f r k low high =
    let o = r.owned k low high in
    (o.0, (o.1.0, (o.1.1.1, λ j h x. let a = (r.entry_meets j h).names k x in let b = o.1.1.0 in omega arith)))
