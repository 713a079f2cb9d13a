-- What is left of the values, from the layout reached, with the defaults owed and the bytes measured, has the answer of all; each value ends behind its start.
use mathlib.Core.Path.{◌≡◌}
use Prim.Native.Nat.{◌+◌, ◌-◌, ◌*◌, ◌≤◌}
use Rattle.columns.specs.Columns.{text_of}
use Rattle.records.specs.Record.{values_at}
use Rattle.directory.specs.Naming.{types_at}
use Rattle.read_entities.specs.Walking.{walked_from}
use Rattle.read_walk.proofs.walk.Given as goal

abbrev pub invariant-loop-fault : goal.invariant-loop-fault
invariant-loop-fault l =
    (walked_from (types_at l.file l.first l.n) l.state l.owed l.length (values_at 64 l.c l.d (text_of l.file l.base 64 l.lines) l.q) ≡ walked_from (types_at l.file l.first l.n) l.initial.state 0 0 (values_at 64 l.c l.d (text_of l.file l.base 64 l.lines) l.from)) × (l.q ≤ l.lines * 64) × (l.length + 1100 * l.owed ≤ 1100 * l.q)

abbrev pub decreases-loop-fault : goal.decreases-loop-fault
decreases-loop-fault l = l.lines * 64 - l.q
