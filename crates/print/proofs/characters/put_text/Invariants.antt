-- After i turns the first i of the characters are written.
use mathlib.Core.Path.{◌≡◌}
use Prim.Native.Nat.{◌+◌}
use lib.ListN.{take, drop}
use Rattle.columns.specs.Columns.{text_of}
use Rattle.columns.specs.Laid.{Wrote}
use Rattle.print.proofs.characters.put_text.Given as goal

abbrev pub invariant-loop-i : goal.invariant-loop-i
invariant-loop-i l =
    (l.next ≡ l.at + l.i) × Wrote l.initial.out l.at (take l.i (drop l.start (text_of l.file l.base l.w l.lines))) l.out l.next
