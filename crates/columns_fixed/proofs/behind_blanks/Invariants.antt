-- The columns left say what all say: what was passed is blank.
use mathlib.Core.Path.{◌≡◌}
use Rattle.columns.specs.Columns.{columns}
use Rattle.columns.specs.Fixed.{field_of, signed_of}
use Rattle.columns_fixed.proofs.behind_blanks.Given as goal

abbrev pub invariant-loop-i : goal.invariant-loop-i
invariant-loop-i l =
    (field_of (columns l.s l.i l.end) ≡ field_of (columns l.s l.at l.end)) × (signed_of (columns l.s l.i l.end) ≡ signed_of (columns l.s l.at l.end))
