-- What is said of an entity at its end.
use Rattle.std.specs.Prelude.{Result, Ok, Err, ◌≤◌}
use Rattle.columns.specs.declared.Fault.{Fault}
use Rattle.columns.specs.Refusal.{number}

-- nothing is wrong, or 14 or 15
abbrev pub Verdict : Type 0
Verdict = Result (Unit {0}) Fault

-- so it is: no other refusal is told
abbrev pub OfLayout : Verdict → Type 0
OfLayout (Ok done) = Unit {0}
OfLayout (Err n) = (14 ≤ number n) × (number n ≤ 15)
