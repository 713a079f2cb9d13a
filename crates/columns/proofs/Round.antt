-- Round trips of fixed fields: what was written into columns is read back, at any width; and what was read fits the columns that it was read from.
use mathlib.Core.Path.{◌≡◌, refl, sym, ap, ◌∙◌}
use mathlib.Core.Bool.{Bool, true, false, cond, ◌&&◌}
use Prim.Native.Nat.{ℕ, zero, suc, ◌+◌, ◌-◌, ◌*◌, ◌^◌, ◌≤◌, ◌<◌}
use native.Mathlib.Nat.{add-zero, zero-add}
use native.Mathlib.Omega.{arith}
use native.Mathlib.Decide.{ℕ_discrete}
use mathlib.Core.List.{List, [], ◌∷◌, ◌++◌, append_assoc, append-nil}
use lib.ListN.{length, replicate}
use lib.Dec.{leb, eqb}
use borrow.Author.Tests.{eq-eqb, eqb-true}
use Rattle.std.specs.Prelude.{Option, Some, None}
use Rattle.columns.specs.declared.Signed.{Signed}
use Rattle.columns.specs.Fixed.{digits_of, field_of, signed, NormalSign, with_sign, behind_sign, signed_of}
use Rattle.columns.specs.Decimal.{dec, minus, signed_dec, to_right}
use Rattle.columns.specs.Reading.{Below}
use Rattle.columns.proofs.Tests.{cond_cases, digit_bounds}
use Rattle.columns.proofs.Fixed.{digits_more, digits_low, field-blank, field-other, signed-blank, signed-minus, signed-other, below-number}
use Rattle.columns.proofs.Decimals.{by_digits_lem, dec_small, dec_big, dec_cons, length_dec_below, length-signed, length-minus, dec-nought}

-- ---- numbers

-- what is read of digits that were written
pub digits-dec : (n : ℕ) (rest : List ℕ) → digits_of 0 (dec n ++ rest) ≡ digits_of n rest
digits-dec = by_digits_lem (λ (n : ℕ). (rest : List ℕ) → digits_of 0 (dec n ++ rest) ≡ digits_of n rest)
    (λ n h rest. rw (dec_small n h) (digits_more 0 (48 + n) rest (omega arith) (omega arith) ∙ ap (λ (k : ℕ). digits_of k rest) (omega arith)))
    (λ n h p rest. rw (dec_big n h, append_assoc) (p _ ∙ digits_more _ _ _ (omega arith) (omega arith) ∙ ap (λ (k : ℕ). digits_of k rest) (omega arith)))

pub digits_all : (n : ℕ) → digits_of 0 (dec n) ≡ Some n
unfolding digits_of
digits_all n = rw append-nil at (digits-dec n [])

-- zeros before a number are nothing
pub digits-zeros : (k : ℕ) (xs : List ℕ) → digits_of 0 (replicate k 48 ++ xs) ≡ digits_of 0 xs
digits-zeros zero xs = refl
digits-zeros (suc k) xs = digits_more 0 48 (replicate k 48 ++ xs) (omega arith) (omega arith) ∙ digits-zeros k xs

pub field-digits : (xs : List ℕ) (n : ℕ) → digits_of 0 xs ≡ Some n → field_of xs ≡ Some n
unfolding digits_of field_of
field-digits [] n h = h
field-digits (b ∷ bs) n h = elim (ℕ_discrete b 32) [
  | yes e ↦ cc (digits_low 0 b bs (omega arith))
  | no l ↦ field-other b bs l ∙ h
]

pub field-blanks : (k : ℕ) (xs : List ℕ) → field_of (replicate k 32 ++ xs) ≡ field_of xs
field-blanks zero xs = refl
field-blanks (suc k) xs = field-blank 32 (replicate k 32 ++ xs) refl ∙ field-blanks k xs

-- right-justified with blanks, or zero-filled: the number itself
pub field-padded : (width n : ℕ) → field_of (to_right 32 width (dec n)) ≡ Some n
unfolding to_right
field-padded width n = field-blanks (width - length (dec n)) (dec n) ∙ field-digits (dec n) n (digits_all n)

pub field_zero_filled : (width n : ℕ) → field_of (to_right 48 width (dec n)) ≡ Some n
unfolding to_right
field_zero_filled width n = field-digits (replicate (width - length (dec n)) 48 ++ dec n) n (digits-zeros (width - length (dec n)) (dec n) ∙ digits_all n)

-- ---- with a sign

pub signed-blanks : (k : ℕ) (xs : List ℕ) → signed_of (replicate k 32 ++ xs) ≡ signed_of xs
signed-blanks zero xs = refl
signed-blanks (suc k) xs = signed-blank 32 (replicate k 32 ++ xs) refl ∙ signed-blanks k xs

signed-plain : (n : ℕ) → signed_of (dec n) ≡ Some (signed false n)
signed-plain n =
    let (b, bs, e, lo, hi) = dec_cons n in
    ap signed_of e ∙ signed-other b bs (λ z. omega arith) (λ z. omega arith) (λ z. omega arith) ∙ ap (with_sign false) (ap (digits_of 0) (sym e) ∙ digits_all n)

signed-behind : (n : ℕ) → signed_of (45 ∷ dec n) ≡ Some (signed true n)
signed-behind n =
    let (b, bs, e, lo, hi) = dec_cons n in
    signed-minus 45 (dec n) refl ∙ ap (behind_sign true) e ∙ ap (with_sign true) (ap (digits_of 0) (sym e) ∙ digits_all n)

signed_own : (neg : Bool) (n : ℕ) → (n ≡ 0 → neg ≡ false) → signed neg n ≡ record { neg = neg; size = n }
signed_own neg n h = pick (eqb n 0) refl
  where
    pick : (b : Bool) → eqb n 0 ≡ b → signed neg n ≡ record { neg = neg; size = n }
    pick true e = rw (e, h (eqb-true n 0 e))
    pick false e = rw e

pub signed-dec : (x : Signed) → NormalSign x → signed_of (signed_dec x) ≡ Some x
unfolding signed_dec
signed-dec x h = pick x.neg refl
  where
    pick : (b : Bool) → x.neg ≡ b → signed_of (minus b ++ dec x.size) ≡ Some x
    pick true e = signed-behind x.size ∙ ap Some (ap (λ (b : Bool). signed b x.size) (sym e) ∙ signed_own x.neg x.size h)
    pick false e = signed-plain x.size ∙ ap Some (ap (λ (b : Bool). signed b x.size) (sym e) ∙ signed_own x.neg x.size h)

pub signed-padded : (width : ℕ) (x : Signed) → NormalSign x → signed_of (to_right 32 width (signed_dec x)) ≡ Some x
unfolding to_right
signed-padded width x h = signed-blanks (width - length (signed_dec x)) (signed_dec x) ∙ signed-dec x h

-- ---- what was read

-- a sign stands at no nought
abbrev Normals : Option Signed → Type 0
Normals (Some x) = NormalSign x
Normals None = Unit {0}

sign_normal : (neg : Bool) (f : Option ℕ) → Normals (with_sign neg f)
sign_normal neg (Some n) = λ z. rw (eq-eqb n 0 z)
sign_normal neg None = tt

behind-normal : (neg : Bool) (bs : List ℕ) → Normals (behind_sign neg bs)
behind-normal neg [] = tt
behind-normal neg (b ∷ bs) = sign_normal neg (digits_of 0 (b ∷ bs))

all_normal : (t : List ℕ) → Normals (signed_of t)
unfolding signed_of
all_normal [] = λ z. refl
all_normal (b ∷ bs) =
    cond_cases Normals (eqb b 32) _ _ (λ e. all_normal bs) (λ e.
    cond_cases Normals (eqb b 45) _ _ (λ e. behind-normal true bs) (λ e.
    cond_cases Normals (eqb b 43) _ _ (λ e. behind-normal false bs) (λ e. sign_normal false (digits_of 0 (b ∷ bs)))))

pub signed-normal : (t : List ℕ) (x : Signed) → signed_of t ≡ Some x → NormalSign x
signed-normal t x e = rw e at (all_normal t)

-- a number of k digits and those of bs
digits-below : (bs : List ℕ) (n k : ℕ) → n < 10 ^ k → Below (10 ^ (k + length bs)) (digits_of n bs)
unfolding digits_of
digits-below [] n k h = rw add-zero h
digits-below (b ∷ bs) n k h =
    let e : k + length (b ∷ bs) ≡ suc k + length bs = omega arith in
    rw e (cond_cases (Below (10 ^ (suc k + length bs))) (leb 48 b && leb b 57) _ _
    (λ t. digits-below bs (n * 10 + (b - 48)) (suc k) (omega (arith, (digit_bounds b t).0, (digit_bounds b t).1)))
    (λ t. tt))

below_more : (m m' : ℕ) (f : Option ℕ) → m ≤ m' → Below m f → Below m' f
below_more m m' (Some n) h p = omega arith
below_more m m' None h p = tt

more-columns : (k : ℕ) → 10 ^ k ≤ 10 ^ suc k
more-columns k = omega arith

-- a number is below ten to its columns
pub field_below : (t : List ℕ) → Below (10 ^ length t) (field_of t)
unfolding field_of
field_below [] = omega arith
field_below (b ∷ bs) =
    cond_cases (Below (10 ^ suc (length bs))) (eqb b 32) _ _
    (λ e. below_more (10 ^ length bs) (10 ^ suc (length bs)) (field_of bs) (more-columns (length bs)) (field_below bs))
    (λ e. rw zero-add at (digits-below (b ∷ bs) 0 0 (omega arith)))

-- so it fits them, written
pub field_fits_lem : (t : List ℕ) (n : ℕ) → 1 ≤ length t → field_of t ≡ Some n → length (dec n) ≤ length t
field_fits_lem t n h e = length_dec_below (length t) n h (below-number (field_of t) (10 ^ length t) n (field_below t) e)

abbrev Fitting : ℕ → Option Signed → Type 0
Fitting w (Some x) = length (signed_dec x) ≤ w
Fitting w None = Unit {0}

sign_fits : (neg : Bool) (f : Option ℕ) (k w : ℕ) → 1 ≤ k → length (minus neg) + k ≤ w → Below (10 ^ k) f → Fitting w (with_sign neg f)
sign_fits neg (Some n) k w h l p = rw (length-signed (signed neg n)) (omega (arith, shorter (eqb n 0) neg, length_dec_below k n h p))
  where
    shorter : (b neg : Bool) → length (minus (cond b false neg)) ≤ length (minus neg)
    shorter true true = omega arith
    shorter true false = omega arith
    shorter false true = omega arith
    shorter false false = omega arith
sign_fits neg None k w h l p = tt

behind-fits : (neg : Bool) (bs : List ℕ) (w : ℕ) → suc (length bs) ≤ w → Fitting w (behind_sign neg bs)
behind-fits neg [] w h = tt
behind-fits neg (b ∷ bs) w h =
    sign_fits neg (digits_of 0 (b ∷ bs)) (suc (length bs)) w (omega arith) (omega (arith, length-minus neg)) (rw zero-add at (digits-below (b ∷ bs) 0 0 (omega arith)))

all_fit_lem : (t : List ℕ) (w : ℕ) → 1 ≤ w → length t ≤ w → Fitting w (signed_of t)
unfolding signed_of
all_fit_lem [] w h k = rw (length-signed (signed false 0), dec-nought) (omega arith)
all_fit_lem (b ∷ bs) w h k =
    cond_cases (Fitting w) (eqb b 32) _ _ (λ e. all_fit_lem bs w h (omega arith)) (λ e.
    cond_cases (Fitting w) (eqb b 45) _ _ (λ e. behind-fits true bs w k) (λ e.
    cond_cases (Fitting w) (eqb b 43) _ _ (λ e. behind-fits false bs w k) (λ e.
    sign_fits false (digits_of 0 (b ∷ bs)) (suc (length bs)) w (omega arith) (omega arith) (rw zero-add at (digits-below (b ∷ bs) 0 0 (omega arith))))))

pub signed-fits : (t : List ℕ) (x : Signed) → 1 ≤ length t → signed_of t ≡ Some x → length (signed_dec x) ≤ length t
signed-fits t x h e = rw e at (all_fit_lem t (length t) h (omega arith))
