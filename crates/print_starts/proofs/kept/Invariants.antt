-- The text, trimmed, is its first i bytes trimmed.
use mathlib.Core.Path.{◌≡◌}
use lib.ListN.{take, drop}
use Rattle.columns.specs.Trim.{trim_end}
use Rattle.model.specs.Read.{is_blank}
use Rattle.print_starts.proofs.kept.Given as goal

abbrev pub invariant-loop-i : goal.invariant-loop-i
invariant-loop-i l = trim_end is_blank (take l.i (drop l.from l.file)) ≡ trim_end is_blank (take 72 (drop l.from l.file))
