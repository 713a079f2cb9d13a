-- sheets_read/proofs/numbers/Invariants.antt
-- The numbers that are left, read from i on behind those in xs, are all numbers read from `at` on.
use mathlib.Core.List.{[]}
use Rattle.columns.specs.Columns.{columns}
use Rattle.sheets.specs.Line.{numbers_of}
use Rattle.sheets_read.proofs.Entries.{Reading}
use Rattle.sheets_read.proofs.numbers.Given as goal

abbrev pub invariant-loop-k : goal.invariant-loop-k
invariant-loop-k l = Reading (numbers_of l.known 13 [] (columns l.s l.at l.end)) l.s l.known l.xs l.k l.i l.end
