-- Rules 9 and 13 of one entry, taken apart: they pass exactly if its numbers are in their ranges and it is no macro. Assumes nothing.
use mathlib.Core.Path.{◌≡◌}
use mathlib.Core.Bool.{Bool, true, false, not}
use Prim.Native.Nat.{ℕ}
use native.Mathlib.Omega.{arith}
use lib.Dec.{eqb}
use borrow.Author.Tests.{eq-eqb, ne_eqb}
use Rattle.columns.specs.declared.Fault.TheVariants.{Directory, Macro}
use Rattle.columns.specs.Refusal.{accepted, demand}
use Rattle.columns.proofs.Outcomes.{then_accepted, demand_accepted}
use Rattle.directory.specs.declared.Fields.{Fields}
use Rattle.directory.specs.Rules.{ranges_ok, entry_rules}

pub record Ruled (x : Fields) : Type 0 where
  pub ranges : ranges_ok x ≡ true
  pub no_macro : x.entity.size ≡ 306 → ⊥

pub rules_of : (x : Fields) (place : ℕ) (u : Unit {0}) → entry_rules x place ≡ accepted u → Ruled x
unfolding entry_rules
rules_of x place u h =
    let b = then_accepted (demand (ranges_ok x) Directory place) _ u h in
    let m = demand_accepted (not (eqb x.entity.size 306)) Macro place b.second in
    record { ranges = demand_accepted (ranges_ok x) Directory place b.first; no_macro = λ e. other (eqb x.entity.size 306) (eq-eqb _ _ e) m }
  where
    other : (b : Bool) → b ≡ true → not b ≡ true → ⊥
    other true e k = let z : ◌≡◌ {A = ℕ} 0 1 = cc in omega arith
    other false e k = let z : ◌≡◌ {A = ℕ} 0 1 = cc in omega arith

pub rules_pass_lem : (x : Fields) → ranges_ok x ≡ true → (x.entity.size ≡ 306 → ⊥) → (place : ℕ) → entry_rules x place ≡ accepted tt
unfolding entry_rules
rules_pass_lem x ranges no_macro place = rw (ranges, ne_eqb x.entity.size 306 no_macro)
