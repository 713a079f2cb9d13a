-- The code's form: the digits read so far are a Run, and numbers past seventeen digits are all alike.
use Rattle.std.specs.Prelude.{Bool, false, cond, List, [], ◌∷◌, ℕ, ◌+◌, ◌-◌, ◌*◌, ◌^◌, ◌≤◌, min, eqb}
use Rattle.columns.specs.Letters.{digit0}
use Rattle.values.specs.declared.Token.{Token}
use Rattle.values.specs.declared.Number.TheVariants.{Bad}
use Rattle.values.specs.declared.Run.{Run}
use Rattle.values.specs.declared.Power.{Power}
use Rattle.values.specs.declared.Power.TheVariants.{None, Wrong, Of}
use Rattle.values.specs.declared.Head.{Head}
use Rattle.values.specs.declared.Head.TheVariants.{Count, Plain}
use Rattle.values.specs.Number.{is_digit, token, whole_of, normal}

-- no digits yet
abbrev pub start : Run
start = record { value = 0; mant = 0; zeros = 0; count = 0 }

-- one more digit, c
abbrev pub more : Run → ℕ → Run
more r c = record {
  value = r.value * 10 + (c - digit0);
  mant = cond (eqb c digit0) r.mant (r.value * 10 + (c - digit0));
  zeros = cond (eqb c digit0) (r.zeros + 1) 0;
  count = r.count + 1;
}

-- the digits that a text begins with, after those of r
abbrev pub scan : List ℕ → Run → Run
scan [] r = r
scan (c ∷ cs) r = cond (is_digit c) (scan cs (more r c)) r

-- numbers past seventeen digits are all alike
abbrev pub cap_run : Run → Run
cap_run r = record { value = min r.value (10 ^ 17); mant = min r.mant (10 ^ 17); zeros = r.zeros; count = r.count }

-- a run that is capped
pub record Small (r : Run) : Type 0 where
  pub value : r.value ≤ 10 ^ 17
  pub mant : r.mant ≤ 10 ^ 17
  pub zeros : r.zeros ≤ r.count

-- `by_power` and `finish` of a run
abbrev pub run_by_power : Power → Bool → Run → ℕ → ℕ → ℕ → Token
run_by_power None neg r frac p end = cond (eqb p 0) (whole_of neg r.value end) (normal neg r.mant r.zeros frac false end)
run_by_power (Wrong at) neg r frac p end = token Bad at
run_by_power (Of up down double last) neg r frac p end = normal neg r.mant (r.zeros + up) (frac + down) double last

-- the same, where a digit must be there
abbrev pub finish_run : Power → Bool → Run → ℕ → ℕ → ℕ → Token
finish_run x neg r frac p end = cond (eqb r.count 0) (token Bad end) (run_by_power x neg r frac p end)

-- a head ends m characters on at most
abbrev pub Within : ℕ → Head → Type 0
Within m (Count count len) = (count ≤ 999) × (len ≤ m)
Within m (Plain k) = k.len ≤ m
