-- What each kind of place makes of a value. Assumes nothing.
use mathlib.Core.Path.{◌≡◌, sym, ◌∙◌}
use mathlib.Core.Bool.{Bool, true, false, not, ◌||◌}
use Prim.Native.Nat.{ℕ, ◌^◌, ◌<◌}
use native.Mathlib.Omega.{arith}
use lib.Dec.{eqb}
use Rattle.std.specs.Prelude.{Option}
use Rattle.columns.specs.Format.{most_integer}
use Rattle.layouts.specs.declared.Kind.{Kind}
use Rattle.layouts.specs.declared.Kind.TheVariants.{R, Given, Weight, S, I, Flag, Count, Outer, Upper1, Upper2, Degree1, Degree2, P, Q, Bound, Rest}
use Rattle.values.specs.declared.Value.{Value}
use Rattle.values.specs.Value.{is_missing}
use Rattle.layouts.specs.declared.LayoutState.{LayoutState}
use Rattle.layouts.specs.Layout.{most_upper}
use Rattle.layouts.specs.Machine.{numeric, above, text, within, size, need, refer, takes, with_k1, with_k2, with_m1, with_m2}
use Rattle.layouts.proofs.Values.{within-size}

module _ (k : Kind) (s : LayoutState) (v : Value) (class : ℕ) (r : Option LayoutState) where
  pub takes-r : (x y b : Bool) → k ≡ R → x ≡ numeric v → y ≡ is_missing v → b ≡ (x || y) → r ≡ need b s → r ≡ takes k s v class
  unfolding takes
  takes-r x y b e ex ey eb q = rw (e, ← ex, ← ey, ← eb) q

  pub takes-s : (x y b : Bool) → k ≡ S → x ≡ text v → y ≡ is_missing v → b ≡ (x || y) → r ≡ need b s → r ≡ takes k s v class
  unfolding takes
  takes-s x y b e ex ey eb q = rw (e, ← ex, ← ey, ← eb) q

  pub takes-given : (b : Bool) → k ≡ Given → b ≡ numeric v → r ≡ need b s → r ≡ takes k s v class
  unfolding takes
  takes-given b e eb q = rw (e, ← eb) q

  pub takes_weight : (b : Bool) → k ≡ Weight → b ≡ above v → r ≡ need b s → r ≡ takes k s v class
  unfolding takes
  takes_weight b e eb q = rw (e, ← eb) q

  pub takes_rest : (b : Bool) → k ≡ Rest → b ≡ is_missing v → r ≡ need b s → r ≡ takes k s v class
  unfolding takes
  takes_rest b e eb q = rw (e, ← eb) q

  pub takes_flag : (b : Bool) → k ≡ Flag → b ≡ within true 0 1 v → r ≡ need b s → r ≡ takes k s v class
  unfolding takes
  takes_flag b e eb q = rw (e, ← eb) q

  pub takes-i : (low high : ℕ) (b : Bool) → k ≡ I low high → b ≡ within false low high v → r ≡ need b s → r ≡ takes k s v class
  unfolding takes
  takes-i low high b e eb q = rw (e, ← eb) q

  pub takes_count : (b : Bool) (n : ℕ) → k ≡ Count → b ≡ within false 0 most_integer v → n ≡ size v → r ≡ need b (with_k1 s n) → r ≡ takes k s v class
  unfolding takes
  takes_count b n e eb en q = rw (e, ← eb, ← en) q

  pub takes_outer : (b : Bool) (n : ℕ) → k ≡ Outer → b ≡ within false 0 1 v → n ≡ size v → r ≡ need b (with_k2 s n) → r ≡ takes k s v class
  unfolding takes
  takes_outer b n e eb en q = rw (e, ← eb, ← en) q

  pub takes_upper1 : (b : Bool) (n : ℕ) → k ≡ Upper1 → b ≡ within true 1 most_upper v → n ≡ size v → r ≡ need b (with_k1 s n) → r ≡ takes k s v class
  unfolding takes
  takes_upper1 b n e eb en q = rw (e, ← eb, ← en) q

  pub takes_upper2 : (b : Bool) (n : ℕ) → k ≡ Upper2 → b ≡ within true 1 most_upper v → n ≡ size v → r ≡ need b (with_k2 s n) → r ≡ takes k s v class
  unfolding takes
  takes_upper2 b n e eb en q = rw (e, ← eb, ← en) q

  pub takes_degree1 : (b : Bool) (n : ℕ) → k ≡ Degree1 → b ≡ within true 1 s.k1 v → n ≡ size v → r ≡ need b (with_m1 s n) → r ≡ takes k s v class
  unfolding takes
  takes_degree1 b n e eb en q = rw (e, ← eb, ← en) q

  pub takes_degree2 : (b : Bool) (n : ℕ) → k ≡ Degree2 → b ≡ within true 1 s.k2 v → n ≡ size v → r ≡ need b (with_m2 s n) → r ≡ takes k s v class
  unfolding takes
  takes_degree2 b n e eb en q = rw (e, ← eb, ← en) q

  pub takes-p : (want : ℕ) → k ≡ P want → r ≡ refer true want s v class → r ≡ takes k s v class
  unfolding takes
  takes-p want e q = rw e q

  pub takes-q : (want : ℕ) → k ≡ Q want → r ≡ refer false want s v class → r ≡ takes k s v class
  unfolding takes
  takes-q want e q = rw e q

  pub takes-bound : (want : ℕ) → k ≡ Bound want → r ≡ refer (not (eqb s.k2 1)) want s v class → r ≡ takes k s v class
  unfolding takes
  takes-bound want e q = rw e q

-- a number kept in k2 fits it
pub small_outer : (v : Value) (b : Bool) (n : ℕ) → b ≡ within false 0 1 v → n ≡ size v → b ≡ true → n < 2 ^ 16
small_outer v b n eb en t = let h = within-size false 0 1 v (sym eb ∙ t) in omega arith

pub small_upper : (v : Value) (b : Bool) (n : ℕ) → b ≡ within true 1 most_upper v → n ≡ size v → b ≡ true → n < 2 ^ 16
small_upper v b n eb en t = let h = within-size true 1 most_upper v (sym eb ∙ t) in omega arith
