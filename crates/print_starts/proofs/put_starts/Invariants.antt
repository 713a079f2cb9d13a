-- What is still owed are the lines from i on.
use mathlib.Core.List.{map}
use Prim.Native.Nat.{◌+◌, ◌-◌, ◌*◌, ◌≤◌}
use Rattle.columns.specs.First.{up_from}
use Rattle.columns.specs.Laid.{Owes}
use Rattle.model.specs.Read.{start_text}
use Rattle.print.specs.Bytes.{start_bytes}
use Rattle.print_starts.proofs.put_starts.Given as goal

abbrev pub invariant-loop-i : goal.invariant-loop-i
invariant-loop-i l =
    (l.next ≤ l.at + 75 * l.i) × Owes l.initial.out l.at (start_bytes (map (start_text l.file) (up_from 0 l.s))) l.out l.next (start_bytes (map (start_text l.file) (up_from l.i (l.s - l.i))))
