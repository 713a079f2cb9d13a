-- What is still owed are the values of the lines from here on.
use mathlib.Core.Path.{◌≡◌}
use Prim.Native.Nat.{◌-◌, ◌≤◌}
use lib.ListN.{length, drop}
use Rattle.records.proofs.Puts.{Owed}
use Rattle.sheets.specs.Sheet.{lines_in}
use Rattle.file_blocks.specs.Blocks.{items_first, behind_values, Unbroken}
use Rattle.file_blocks.specs.Writing.{parted}
use Rattle.file_parameters.proofs.put_values.Given as goal

abbrev pub invariant-loop-base : goal.invariant-loop-base
invariant-loop-base l =
    (l.at ≤ l.next) × (l.next ≤ length l.t) × (length l.out ≡ length l.initial.out)
    × (behind_values (lines_in (drop l.next l.t)) ≡ behind_values (lines_in (drop l.at l.t)))
    × Unbroken (lines_in (drop l.next l.t))
    × Owed l.base 64 l.initial.out l.p (parted 64 l.p (items_first (lines_in (drop l.at l.t))))
    l.out l.end (parted 64 l.end (items_first (lines_in (drop l.next l.t))))

abbrev pub decreases-loop-base : goal.decreases-loop-base
decreases-loop-base l = length l.t - l.next
