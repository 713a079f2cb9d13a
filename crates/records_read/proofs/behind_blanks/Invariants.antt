-- The blanks from the start are those passed and those from here on.
use Prim.Native.Nat.{◌+◌}
use mathlib.Core.Path.{◌≡◌}
use lib.ListN.{drop}
use Rattle.columns.specs.Columns.{text_of}
use Rattle.records.specs.Record.{blanks}
use Rattle.records_read.proofs.behind_blanks.Given as goal

abbrev pub invariant-loop-q : goal.invariant-loop-q
invariant-loop-q l = l.p + blanks (drop l.p (text_of l.file l.base l.w l.lines)) ≡ l.q + blanks (drop l.q (text_of l.file l.base l.w l.lines))
