-- What is still owed are the lines of the fields left, numbered from n on.
use mathlib.Core.Path.{◌≡◌}
use Prim.Native.Nat.{◌+◌, ◌-◌, ◌*◌, ◌≤◌}
use lib.ListN.{length}
use Rattle.columns.specs.Columns.{text_of}
use Rattle.columns.specs.Laid.{Owes}
use Rattle.records.specs.Record.{values_at}
use Rattle.records.specs.Items.{items_from}
use Rattle.records.specs.Global.{first_field}
use Rattle.model.specs.Read.{given}
use Rattle.print.specs.Bytes.{values_in, global_bytes}
use Rattle.print_globals.proofs.put_globals.Given as goal

abbrev pub invariant-loop-n : goal.invariant-loop-n
invariant-loop-n l =
    (l.q ≤ l.lines * 72) × (l.next + 1100 * (l.n-end - l.n) ≤ l.at + 79200 * l.lines) × (length l.out ≡ length l.initial.out)
    × Owes l.initial.out l.at (global_bytes (given first_field (values_in (values_at 72 l.c l.d (text_of l.file l.base 72 l.lines) l.from))))
    l.out l.next (global_bytes (given l.n (items_from 72 l.c l.d (text_of l.file l.base 72 l.lines) l.q (l.n-end - l.n))))
