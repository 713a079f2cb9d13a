-- Outcomes taken apart: what was accepted, each step of it was.
use mathlib.Core.Path.{◌≡◌, refl}
use mathlib.Core.Bool.{Bool, true, false}
use Prim.Native.Nat.{ℕ}
use native.Mathlib.Omega.{arith}
use Rattle.std.specs.Prelude.{Result, Ok, Err}
use Rattle.std.specs.Result.{MatchResult, is_ok}
use Rattle.columns.specs.declared.Fault.{Fault}
use Rattle.columns.specs.Refusal.{Outcome, accepted, refused, ◌then◌, demand}

-- what the second step made, it made of what the first accepted
pub record Both {A B : Type 0} (o : Outcome A) (f : A → Outcome B) (b : B) : Type 0 where
  pub value : A
  pub first : o ≡ accepted value
  pub second : f value ≡ accepted b

pub then_accepted : {A B : Type 0} (o : Outcome A) (f : A → Outcome B) (b : B) → o then f ≡ accepted b → Both o f b
then_accepted (accepted a) f b e = record { value = a; first = refl; second = e }
then_accepted (refused n p) f b e = let z : ◌≡◌ {A = ℕ} 0 1 = cc in absurd (omega arith)

pub demand_accepted : (t : Bool) (n : Fault) (p : ℕ) → demand t n p ≡ accepted tt → t ≡ true
demand_accepted true n p e = refl
demand_accepted false n p e = let z : ◌≡◌ {A = ℕ} 0 1 = cc in absurd (omega arith)

pub demand_true : (t : Bool) (n : Fault) (p : ℕ) → t ≡ true → demand t n p ≡ accepted tt
demand_true t n p e = rw e

-- what `map_err` gives is good only where it was good before, by the same value
pub mapped_ok : {A E F : Type 0} (Q : E → Type 0) (x : Result A E) (r : Result A F) (b : A)
    → MatchResult x (λ a. r ≡ Ok a) Q → is_ok r ≡ is_ok x → r ≡ Ok b → x ≡ Ok b
mapped_ok Q (Ok a) r b m v e = cc
mapped_ok Q (Err d) r b m v e = let z : true ≡ false = rw e at v in cc
