-- What is still owed are the entries from i on; the Z line comes last.
use mathlib.Core.Path.{◌≡◌}
use Prim.Native.Nat.{◌+◌, ◌-◌, ◌*◌, ◌≤◌}
use lib.ListN.{length}
use Rattle.columns.specs.Laid.{Owes}
use Rattle.print.specs.Rows.{rows_bytes}
use Rattle.print_sheet.proofs.rows.put_rows.Given as goal

abbrev pub invariant-loop-i : goal.invariant-loop-i
invariant-loop-i l =
    (l.next ≤ l.at + 15000000000 * l.i) × (length l.out ≡ length l.initial.out)
    × Owes l.initial.out l.at (rows_bytes l.list l.file l.first l.n l.parameters l.c l.d 0 l.n)
    l.out l.next (rows_bytes l.list l.file l.first l.n l.parameters l.c l.d l.i (l.n - l.i))
