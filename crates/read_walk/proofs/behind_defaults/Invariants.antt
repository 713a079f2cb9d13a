-- The invariant: the defaults left, from the layout reached, lead where all lead.
use mathlib.Core.Path.{◌≡◌}
use Prim.Native.Nat.{◌-◌}
use lib.ListN.{replicate}
use Rattle.values.specs.Value.{default}
use Rattle.directory.specs.Naming.{types_at}
use Rattle.layouts.specs.Walk.{run}
use Rattle.read_walk.proofs.behind_defaults.Given as goal

abbrev pub invariant-loop : goal.invariant-loop
invariant-loop l =
    run (types_at l.file l.first l.n) l.state (replicate (l.owed - l.counter) default)
    ≡ run (types_at l.file l.first l.n) l.initial.state (replicate l.owed default)
