-- How long the parts of a spelling are, measured without writing them. Assumes nothing.
use mathlib.Core.Path.{◌≡◌, sym, ◌∙◌}
use mathlib.Core.Bool.{Bool, true, false}
use mathlib.Core.List.{[], ◌∷◌}
use Prim.Native.Nat.{ℕ, ◌+◌}
use native.Mathlib.Omega.{arith}
use lib.ListN.{length, length-append}
use borrow.Author.Tests.{lt-ltb}
use Rattle.columns.specs.Decimal.{dec, minus}
use Rattle.values.specs.declared.Value.{Value}
use Rattle.values.specs.declared.Value.TheVariants.{Default, Whole, Real, Text}
use Rattle.values.specs.Value.{whole, real, ten_to, exponent, head, spelled}
use Rattle.values.specs.Writing.{front}
use Rattle.values.proofs.Sizes.{length_real, length_whole}

-- ---- signs and exponents

module _ (neg : Bool) where
  pub sign_1 : neg ≡ true → 1 ≡ length (minus neg)
  sign_1 e = rw e

  pub sign_0 : neg ≡ false → 0 ≡ length (minus neg)
  sign_0 e = rw e

module _ (eneg : Bool) (e : ℕ) (double : Bool) where
  length-power : {s n d : ℕ} → s ≡ length (minus eneg) → n ≡ e → d ≡ length (dec n) → 1 + s + d ≡ length (ten_to eneg e double)
  length-power es en ed = rw (ed, en, es, length-append (minus eneg) (dec e)) (omega arith)

  pub exponent-D : {s n d : ℕ} → double ≡ true → s ≡ length (minus eneg) → n ≡ e → d ≡ length (dec n) → 1 + s + d ≡ length (exponent eneg e double)
  exponent-D h es en ed = length-power es en ed ∙ simp h

  pub exponent_E : {s n d : ℕ} → double ≡ false → (e ≡ 0 → ⊥) → s ≡ length (minus eneg) → n ≡ e → d ≡ length (dec n) → 1 + s + d ≡ length (exponent eneg e double)
  exponent_E h z es en ed = length-power es en ed ∙ simp (h, lt-ltb 0 e (omega arith))

  pub exponent_0 : double ≡ false → e ≡ 0 → 0 ≡ length (exponent eneg e double)
  exponent_0 h z = simp (h, z)

-- ---- a value by its fields

pub length_of_whole : (neg : Bool) (size : ℕ) {s n d : ℕ} → s ≡ length (minus neg) → n ≡ size → d ≡ length (dec n) → s + d ≡ length (spelled (whole neg size))
length_of_whole neg size es en ed = rw (ed, en, es) (sym (length_whole neg size))

pub length_of_real : (neg : Bool) (m : ℕ) (eneg : Bool) (e : ℕ) (double : Bool) {s d x : ℕ} → s ≡ length (minus neg) → d ≡ length (dec m) → x ≡ length (exponent eneg e double)
    → s + d + 1 + x ≡ length (spelled (real neg m eneg e double))
length_of_real neg m eneg e double es ed ex = rw (es, ed, ex) (omega (arith, length_real neg m eneg e double))

pub length_of_head : (count : ℕ) {d : ℕ} → d ≡ length (dec count) → d + 1 ≡ length (head count)
length_of_head count ed = rw ed (sym (length-append (dec count) (72 ∷ [])))

-- ---- a value

module _ (v : Value) where
  pub front-none : v ≡ Default → 0 ≡ length (front v)
  unfolding spelled
  front-none e = rw e

  pub front_whole : {neg : Bool} {size r : ℕ} → v ≡ Whole neg size → r ≡ length (spelled (whole neg size)) → r ≡ length (front v)
  front_whole e q = rw e q

  pub front_real : {neg : Bool} {m : ℕ} {eneg : Bool} {e : ℕ} {double : Bool} {r : ℕ} → v ≡ Real neg m eneg e double → r ≡ length (spelled (real neg m eneg e double)) → r ≡ length (front v)
  front_real e q = rw e q

  pub front-head : {start count r : ℕ} → v ≡ Text start count → r ≡ length (head count) → r ≡ length (front v)
  front-head e q = rw e q

pub ruleset lengths = (sign_1, sign_0, exponent-D, exponent_E, exponent_0, length_of_whole, length_of_real, length_of_head, front-none, front_whole, front_real, front-head)
