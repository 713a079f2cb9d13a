-- What is still owed is the D and P lines of the entries from `y` on.
use mathlib.Core.Path.{◌≡◌}
use Prim.Native.Nat.{◌+◌}
use lib.ListN.{length}
use Rattle.file_canonical.specs.Laying.{entries_at, OwingAt, both_laid, Turn}
use Rattle.file_canonical.proofs.entries.put_rows.Given as goal

abbrev pub invariant-loop-k : goal.invariant-loop-k
invariant-loop-k l =
    (l.k + length (entries_at l.t l.y.at) ≡ l.n) × Turn l.t l.y l.k × OwingAt (both_laid l.initial.out l.t l.initial.y 0) l.out l.t l.y l.k
