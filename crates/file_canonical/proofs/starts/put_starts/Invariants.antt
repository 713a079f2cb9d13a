-- What is still owed is the S lines of the start lines from `at` on.
use mathlib.Core.Path.{◌≡◌}
use Prim.Native.Nat.{◌+◌, ◌*◌, ◌≤◌}
use lib.ListN.{length, drop}
use Rattle.columns.specs.Laid.{Owes}
use Rattle.sheets.specs.Sheet.{lines_in}
use Rattle.file_canonical.specs.Laying.{starts_first, behind_starts, start_bytes}
use Rattle.file_canonical.proofs.starts.put_starts.Given as goal

abbrev pub invariant-loop-k : goal.invariant-loop-k
invariant-loop-k l =
    (l.at ≤ length l.t) × (l.next ≡ 81 * l.k) × (l.k + length (starts_first (lines_in (drop l.at l.t))) ≡ l.s)
    × (behind_starts (lines_in (drop l.at l.t)) ≡ behind_starts (lines_in l.t))
    × Owes l.initial.out 0 (start_bytes 1 (starts_first (lines_in l.t))) l.out l.next (start_bytes (l.k + 1) (starts_first (lines_in (drop l.at l.t))))
