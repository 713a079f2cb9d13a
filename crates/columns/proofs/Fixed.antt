-- One column of a fixed number field: a digit of the columns, or a blank at an index of the text.
use mathlib.Core.Path.{◌≡◌, refl, sym, ap, ◌∙◌}
use mathlib.Core.Bool.{Bool, true, false}
use Prim.Native.Nat.{ℕ, ◌+◌, ◌-◌, ◌*◌, ◌^◌, ◌≤◌, ◌<◌}
use native.Mathlib.Nat.{pow-le-pow_right}
use native.Mathlib.Numerals.{add-one}
use native.Mathlib.Omega.{arith}
use native.Mathlib.Decide.{dec_lt}
use mathlib.Core.List.{List, ◌∷◌}
use lib.ListN.{length, get_or, take, drop}
use lib.Seq.{drop-cons}
use lib.Dec.{eqb}
use borrow.Author.Tests.{le-leb, lt-leb, eq-eqb, ne_eqb}
use Rattle.std.specs.Prelude.{Option, Some, None}
use Rattle.std.proofs.lemmas.List.{length-take, drop_all}
use Rattle.columns.specs.declared.Signed.{Signed}
use Rattle.columns.specs.Columns.{columns}
use Rattle.columns.specs.Fixed.{digits_of, field_of, is_number, with_sign, behind_sign, signed_of}
use Rattle.columns.specs.Reading.{Below, Behind}
use Rattle.columns.proofs.Columns.{column, columns-end}

-- ---- one step of each

pub digits_more : (n b : ℕ) (bs : List ℕ) → 48 ≤ b → b ≤ 57 → digits_of n (b ∷ bs) ≡ digits_of (n * 10 + (b - 48)) bs
unfolding digits_of
digits_more n b bs lo hi = simp (digits_of, le-leb _ _ lo, le-leb _ _ hi)

pub digits_low : (n b : ℕ) (bs : List ℕ) → b < 48 → digits_of n (b ∷ bs) ≡ None
unfolding digits_of
digits_low n b bs h = simp (digits_of, lt-leb _ _ h)

pub digits_high : (n b : ℕ) (bs : List ℕ) → 57 < b → digits_of n (b ∷ bs) ≡ None
unfolding digits_of
digits_high n b bs h = simp (digits_of, le-leb 48 b (omega arith), lt-leb _ _ h)

pub field-blank : (b : ℕ) (bs : List ℕ) → b ≡ 32 → field_of (b ∷ bs) ≡ field_of bs
unfolding field_of
field-blank b bs h = simp (field_of, eq-eqb _ _ h)

pub field-other : (b : ℕ) (bs : List ℕ) → (b ≡ 32 → ⊥) → field_of (b ∷ bs) ≡ digits_of 0 (b ∷ bs)
unfolding field_of
field-other b bs h = simp (field_of, ne_eqb _ _ h)

pub signed-blank : (b : ℕ) (bs : List ℕ) → b ≡ 32 → signed_of (b ∷ bs) ≡ signed_of bs
unfolding signed_of
signed-blank b bs h = simp (signed_of, eq-eqb _ _ h)

pub signed-minus : (b : ℕ) (bs : List ℕ) → b ≡ 45 → signed_of (b ∷ bs) ≡ behind_sign true bs
unfolding signed_of
signed-minus b bs h = simp (signed_of, ne_eqb b 32 (omega arith), eq-eqb _ _ h)

pub signed_plus : (b : ℕ) (bs : List ℕ) → b ≡ 43 → signed_of (b ∷ bs) ≡ behind_sign false bs
unfolding signed_of
signed_plus b bs h = simp (signed_of, ne_eqb b 32 (omega arith), ne_eqb b 45 (omega arith), eq-eqb _ _ h)

pub signed-other : (b : ℕ) (bs : List ℕ) → (b ≡ 32 → ⊥) → (b ≡ 45 → ⊥) → (b ≡ 43 → ⊥) → signed_of (b ∷ bs) ≡ with_sign false (digits_of 0 (b ∷ bs))
unfolding signed_of
signed-other b bs h k l = simp (signed_of, ne_eqb _ _ h, ne_eqb _ _ k, ne_eqb _ _ l)

-- ---- the same at digit i of xs: where what is left has the answer f, what a turn of a loop does keeps that

module _ (f : Option ℕ) (xs : List ℕ) (n i : ℕ) (inv : digits_of n (drop i xs) ≡ f) where
  module _ (lt : i < length xs) where
    ahead : digits_of n (get_or xs i 0 ∷ drop (i + 1) xs) ≡ f
    ahead = rw (drop-cons xs i 0 lt, ← add-one) at inv

    pub low_at : get_or xs i 0 < 48 → None ≡ f
    low_at h = sym (digits_low _ _ _ h) ∙ ahead

    pub high_at : 57 < get_or xs i 0 → None ≡ f
    high_at h = sym (digits_high _ _ _ h) ∙ ahead

    pub digit_at : (d : ℕ) → 48 ≤ get_or xs i 0 → get_or xs i 0 ≤ 57 → d ≡ get_or xs i 0 - 48 → digits_of (n * 10 + d) (drop (i + 1) xs) ≡ f
    digit_at d lo hi e = rw e (sym (digits_more _ _ _ lo hi) ∙ ahead)

  pub digits-end : length xs ≤ i → Some n ≡ f
  unfolding digits_of
  digits-end ge = rw (drop_all i xs ge) at inv

-- they are columns of a text
pub digits_here : (s : List ℕ) (at end : ℕ) → digits_of 0 (take (end - at) (drop at s)) ≡ digits_of 0 (columns s at end)
unfolding columns
digits_here s at end = refl

-- ---- the same at an index of the text

module _ (f : Option ℕ) (s : List ℕ) (i end : ℕ) where
  pub blank-at : field_of (columns s i end) ≡ f → i < end → end ≤ length s → get_or s i 0 ≡ 32 → field_of (columns s (i + 1) end) ≡ f
  blank-at inv lt le h = sym (field-blank _ _ h) ∙ (rw (column s i end lt le) at inv)

  pub other_at : (r : Option ℕ) → r ≡ digits_of 0 (columns s i end) → field_of (columns s i end) ≡ f → i < end → end ≤ length s → (get_or s i 0 ≡ 32 → ⊥) → r ≡ f
  other_at r e inv lt le h = e ∙ (rw (column s i end lt le) (sym (field-other _ _ h))) ∙ inv

  pub field_end : field_of (columns s i end) ≡ f → end ≤ i → Some 0 ≡ f
  unfolding field_of
  field_end inv ge = rw (columns-end s i end ge) at inv

module _ (f : Option Signed) (s : List ℕ) (i end : ℕ) (inv : signed_of (columns s i end) ≡ f) where
  module _ (lt : i < end) (le : end ≤ length s) where
    pub signed_blank_at : get_or s i 0 ≡ 32 → signed_of (columns s (i + 1) end) ≡ f
    signed_blank_at h = sym (signed-blank _ _ h) ∙ (rw (column s i end lt le) at inv)

    pub minus-at : (r : Option Signed) → r ≡ behind_sign true (columns s (i + 1) end) → get_or s i 0 ≡ 45 → r ≡ f
    minus-at r e h = e ∙ sym (signed-minus _ _ h) ∙ (rw (column s i end lt le) at inv)

    pub plus_at : (r : Option Signed) → r ≡ behind_sign false (columns s (i + 1) end) → get_or s i 0 ≡ 43 → r ≡ f
    plus_at r e h = e ∙ sym (signed_plus _ _ h) ∙ (rw (column s i end lt le) at inv)

    pub plain_at_lem : (x : Option ℕ) (r : Option Signed) → x ≡ digits_of 0 (columns s i end) → r ≡ with_sign false x → (get_or s i 0 ≡ 32 → ⊥) → (get_or s i 0 ≡ 45 → ⊥) → (get_or s i 0 ≡ 43 → ⊥) → r ≡ f
    plain_at_lem x r e q h k l = q ∙ ap (with_sign false) (e ∙ ap (digits_of 0) (column s i end lt le)) ∙ sym (signed-other _ _ h k l) ∙ (rw (column s i end lt le) at inv)

  pub signed-end : end ≤ i → Some (record { neg = false; size = 0 }) ≡ f
  unfolding signed_of
  signed-end ge = rw (columns-end s i end ge) at inv

-- ---- behind the blanks

module _ (s : List ℕ) (at i end : ℕ) (low : at ≤ i) (field : field_of (columns s i end) ≡ field_of (columns s at end)) (signed : signed_of (columns s i end) ≡ signed_of (columns s at end)) where
  pub behind-here : i < end → (get_or s i 0 ≡ 32 → ⊥) → Behind s at end i
  behind-here lt h = record { low = low; high = omega arith; field = field; signed = signed; next = λ _. h }

  pub behind_all : i ≤ end → end ≤ i → Behind s at end end
  behind_all k h =
      let e : end ≡ i = omega arith in
      record {
        low = omega arith;
        high = omega arith;
        field = ap (λ (j : ℕ). field_of (columns s j end)) e ∙ field;
        signed = ap (λ (j : ℕ). signed_of (columns s j end)) e ∙ signed;
        next = λ lt _. omega arith;
      }

module _ (s : List ℕ) (at end i : ℕ) (b : Behind s at end i) (le : end ≤ length s) where
  pub behind-field : (r : Option ℕ) → r ≡ digits_of 0 (columns s i end) → r ≡ field_of (columns s at end)
  unfolding digits_of
  behind-field r e = elim (dec_lt i end) [
    | yes lt ↦ other_at (field_of (columns s at end)) s i end r e b.field lt le (b.next lt)
    | no ge ↦ (e ∙ rw (columns-end s i end (omega arith))) ∙ field_end (field_of (columns s at end)) s i end b.field (omega arith)
  ]

  pub behind-plain : (x : Option ℕ) (r : Option Signed) → x ≡ digits_of 0 (columns s i end) → r ≡ with_sign false x → i < end → (get_or s i 0 ≡ 45 → ⊥) → (get_or s i 0 ≡ 43 → ⊥) → r ≡ signed_of (columns s at end)
  behind-plain x r e q lt k l = plain_at_lem (signed_of (columns s at end)) s i end b.signed lt le x r e q (b.next lt) k l

-- ---- behind a sign

pub sign_bad : (neg : Bool) (f : Option ℕ) → f ≡ None → None ≡ with_sign neg f
sign_bad neg f e = rw e

pub sign_nought : (neg : Bool) (f : Option ℕ) (n : ℕ) → f ≡ Some n → n ≡ 0 → Some (record { neg = false; size = n }) ≡ with_sign neg f
sign_nought neg f n e h = rw (e, eq-eqb _ _ h)

pub sign_some : (neg : Bool) (f : Option ℕ) (n : ℕ) → f ≡ Some n → (n ≡ 0 → ⊥) → Some (record { neg = neg; size = n }) ≡ with_sign neg f
sign_some neg f n e h = rw (e, ne_eqb _ _ h)

pub behind-none : (neg : Bool) (s : List ℕ) (at end : ℕ) → end ≤ at → None ≡ behind_sign neg (columns s at end)
behind-none neg s at end h = rw (columns-end s at end h)

pub behind_some : (neg : Bool) (s : List ℕ) (at end : ℕ) (x : Option ℕ) (r : Option Signed) → x ≡ digits_of 0 (columns s at end) → r ≡ with_sign neg x → at < end → end ≤ length s
    → r ≡ behind_sign neg (columns s at end)
behind_some neg s at end x r e q lt le = rw (column s at end lt le) (q ∙ ap (with_sign neg) (e ∙ ap (digits_of 0) (column s at end lt le)))

-- ---- the field holds n

pub holds_bad : (f : Option ℕ) (n : ℕ) → f ≡ None → false ≡ is_number f n
unfolding is_number
holds_bad f n e = rw e

pub holds-number : (f : Option ℕ) (m n : ℕ) → f ≡ Some m → eqb m n ≡ is_number f n
unfolding is_number
holds-number f m n e = rw e

pub holds-field : (f g : Option ℕ) (n : ℕ) (r : Bool) → f ≡ g → r ≡ is_number f n → r ≡ is_number g n
holds-field f g n r e h = rw (← e) h

-- ---- a number of as many digits as have passed

module _ (n i : ℕ) (h : n < 10 ^ i) where
  pub more-digits : (d b : ℕ) → b ≤ 57 → d ≡ b - 48 → n * 10 + d < 10 ^ (i + 1)
  more-digits d b l m = rw add-one (omega arith)

  module _ (s : List ℕ) (at end : ℕ) (l : end ≤ at + 8) where
    few_digits : i < length (take (end - at) s) → n < 10000000
    few_digits k =
        let e : i ≤ 7 = omega (arith, length-take (end - at) s) in
        let t : 0 < 10 = omega arith in
        omega (arith, pow-le-pow_right t e)

    pub ten_fits : i < length (take (end - at) s) → n * 10 < 2 ^ 32
    ten_fits k = omega (arith, few_digits k)

    pub digit_fits : (d b : ℕ) → i < length (take (end - at) s) → b ≤ 57 → d ≡ b - 48 → n * 10 + d < 2 ^ 32
    digit_fits d b k m e = omega (arith, few_digits k)

    pub below-digits : i ≤ length (take (end - at) s) → n < 100000000
    below-digits k =
        let e : i ≤ 8 = omega (arith, length-take (end - at) s) in
        let t : 0 < 10 = omega arith in
        omega (arith, pow-le-pow_right t e)

-- ---- how large: what callers of the readers cite

pub below-number : (f : Option ℕ) (m n : ℕ) → Below m f → f ≡ Some n → n < m
below-number f m n h e = rw e at h

pub ruleset reads = (low_at, high_at, digit_at, digits-end, digits_here, behind-field, more-digits, ten_fits, digit_fits, below-digits)

pub ruleset blanks = (blank-at, signed_blank_at, behind-here, behind_all)

pub ruleset signs = (minus-at, plus_at, behind-plain, signed-end, sign_bad, sign_nought, sign_some, behind-none, behind_some, below-number)

pub ruleset held = (holds_bad, holds-number, holds-field)
