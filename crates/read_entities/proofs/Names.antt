-- What a value names. Assumes nothing.
use mathlib.Core.Path.{◌≡◌}
use mathlib.Core.Bool.{Bool, true, false}
use mathlib.Core.List.{List}
use Prim.Native.Nat.{ℕ}
use Rattle.references.specs.References.{class_at}
use Rattle.values.specs.declared.Value.{Value}
use Rattle.values.specs.declared.Value.TheVariants.{Default, Whole, Real, Text}
use Rattle.layouts.specs.Named.{named}

module _ (types : List ℕ) {v : Value} where
  pub default_names : v ≡ Default → 0 ≡ named types v
  unfolding named
  default_names e = rw e

  pub negative_names : {neg : Bool} {size : ℕ} → v ≡ Whole neg size → neg ≡ true → 0 ≡ named types v
  unfolding named
  negative_names e h = rw (e, h)

  pub whole_names : {neg : Bool} {size r : ℕ} → v ≡ Whole neg size → neg ≡ false → r ≡ class_at types size → r ≡ named types v
  unfolding named
  whole_names e h k = rw (e, h) k

  pub real_names : {neg : Bool} {m : ℕ} {eneg : Bool} {e : ℕ} {double : Bool} → v ≡ Real neg m eneg e double → 0 ≡ named types v
  unfolding named
  real_names e = rw e

  pub text-names : {start count : ℕ} → v ≡ Text start count → 0 ≡ named types v
  unfolding named
  text-names e = rw e

pub ruleset names = (default_names, negative_names, whole_names, real_names, text-names)
