-- The rest of the values, checked behind the n that are read, is the whole record's check; each value ends behind its start.
use mathlib.Core.Path.{◌≡◌}
use Prim.Native.Nat.{◌+◌, ◌-◌, ◌*◌, ◌≤◌}
use Rattle.columns.specs.Columns.{text_of}
use Rattle.records.specs.Record.{values_at}
use Rattle.records.specs.Reading.{check_from, checked}
use Rattle.records_read.proofs.check_from.Given as goal

abbrev pub invariant-loop-value : goal.invariant-loop-value
invariant-loop-value l =
    (check_from l.n l.kept (values_at l.w l.c l.d (text_of l.file l.base l.w l.lines) l.q) ≡ checked (values_at l.w l.c l.d (text_of l.file l.base l.w l.lines) l.p)) × (l.q ≤ l.lines * l.w) × (l.p + l.n ≤ l.q) × (l.kept ≤ l.n)

abbrev pub decreases-loop-value : goal.decreases-loop-value
decreases-loop-value l = l.lines * l.w - l.q
