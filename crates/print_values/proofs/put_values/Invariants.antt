-- What is still owed are the lines of the values left, behind the defaults met since the last given one, marked from the state reached.
use mathlib.Core.Path.{◌≡◌}
use Prim.Native.Nat.{◌+◌, ◌-◌, ◌*◌, ◌≤◌}
use lib.ListN.{length}
use Rattle.columns.specs.Columns.{text_of}
use Rattle.records.specs.Record.{values_at}
use Rattle.directory.specs.Naming.{types_at}
use Rattle.read_entities.specs.Marks.{carried_in, marks_begun, marked_from}
use Rattle.print.specs.Bytes.{value_bytes}
use Rattle.print.proofs.Valued.{Owing}
use Rattle.print_values.proofs.put_values.Given as goal

abbrev pub invariant-loop-last : goal.invariant-loop-last
invariant-loop-last l =
    (l.q ≤ l.lines * 64) × (l.next + 1100 * l.owed ≤ l.at + 1100 * l.q) × (length l.out ≡ length l.initial.out)
    × Owing (types_at l.file l.first l.n) (text_of l.file l.base 64 l.lines) l.c l.d l.initial.out l.at
    (value_bytes (marked_from (types_at l.file l.first l.n) (marks_begun l.list l.typ l.form)
    (carried_in (values_at 64 l.c l.d (text_of l.file l.base 64 l.lines) 0)))) l.out l.next l.g l.owed l.q l.last

abbrev pub decreases-loop-last : goal.decreases-loop-last
decreases-loop-last l = l.lines * 64 - l.q
