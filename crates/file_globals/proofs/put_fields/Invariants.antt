-- What is still owed are the fields of the lines from here on, n being the first number that may come.
use mathlib.Core.Path.{◌≡◌}
use Prim.Native.Nat.{◌-◌, ◌≤◌}
use lib.ListN.{length, drop}
use Rattle.records.specs.Global.{first_field}
use Rattle.records.proofs.Puts.{Owed}
use Rattle.sheets.specs.Sheet.{lines_in}
use Rattle.model.specs.Canonical.{filled}
use Rattle.file_blocks.specs.Blocks.{globals_first, behind_globals}
use Rattle.file_blocks.specs.Writing.{parted}
use Rattle.file_globals.proofs.put_fields.Given as goal

abbrev pub invariant-loop-g : goal.invariant-loop-g
invariant-loop-g l =
    (l.at ≤ l.next) × (l.next ≤ length l.t) × (length l.out ≡ length l.initial.out)
    × (behind_globals (lines_in (drop l.next l.t)) ≡ behind_globals (lines_in (drop l.at l.t)))
    × Owed l.base 72 l.initial.out l.p (parted 72 l.p (filled first_field (globals_first (lines_in (drop l.at l.t)))))
    l.out l.end (parted 72 l.end (filled l.n (globals_first (lines_in (drop l.next l.t)))))

abbrev pub decreases-loop-g : goal.decreases-loop-g
decreases-loop-g l = length l.t - l.next
