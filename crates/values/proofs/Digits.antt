-- Lists of digits, and what stands behind them. Assumes nothing.
use mathlib.Core.Path.{◌≡◌, refl, sym, ap, ◌∙◌}
use mathlib.Core.Bool.{Bool, true, false, cond, ◌||◌, true≢false}
use mathlib.Core.List.{List, [], ◌∷◌, ◌++◌, append_assoc, append-nil}
use Prim.Native.Nat.{ℕ, suc, ◌+◌, ◌-◌, ◌*◌, ◌/◌, ◌%◌, ◌^◌, ◌≤◌, ◌<◌}
use native.Mathlib.Nat.{pow-suc, add-zero, add-suc, suc-add, zero-add}
use native.Mathlib.Omega.{arith}
use lib.ListN.{length, get_or, drop}
use lib.Seq.{drop-drop, drop-append_seam, get_or-drop}
use lib.Dec.{leb, eqb}
use borrow.Author.Tests.{leb-true, eqb-true, eqb-false, ne_eqb, le-leb}
use Rattle.columns.specs.Decimal.{dec, minus}
use Rattle.columns.proofs.Decimals.{dec_small, dec_big, by_digits_lem, length_dec_le}
use Rattle.columns.proofs.Tests.{both_left, both_right}
use Rattle.values.specs.Number.{is_digit, joins, digits, value, sign_len}
use Rattle.values.proofs.Laws.{value-append}

pub data Ds : List ℕ → Type 0 where
  none : Ds []
  one : {c : ℕ} {cs : List ℕ} → is_digit c ≡ true → Ds cs → Ds (c ∷ cs)

pub digit_low : (c : ℕ) → is_digit c ≡ true → 48 ≤ c
digit_low c e = leb-true 48 c (both_left (leb 48 c) (leb c 57) e)

pub digit_high : (c : ℕ) → is_digit c ≡ true → c ≤ 57
digit_high c e = leb-true c 57 (both_right (leb 48 c) (leb c 57) e)

pub digit : (d : ℕ) → d < 10 → is_digit (48 + d) ≡ true
digit d h = simp (le-leb 48 (48 + d) (omega arith), le-leb (48 + d) 57 (omega arith))

pub ds_append : {xs ys : List ℕ} → Ds xs → Ds ys → Ds (xs ++ ys)
ds_append none e = e
ds_append (one h d) e = one h (ds_append d e)

-- digits, and behind them no digit: just these are read
pub digits_append : {xs : List ℕ} → Ds xs → (q : List ℕ) → is_digit (get_or q 0 0) ≡ false → digits (xs ++ q) ≡ xs
digits_append none [] e = refl
digits_append none (c ∷ q) e = simp e
digits_append (one {c} {cs} h d) q e = simp h (ap (λ (l : List ℕ). c ∷ l) (digits_append d q e))

pub ds_first : {xs : List ℕ} → Ds xs → 1 ≤ length xs → (q : List ℕ) → is_digit (get_or (xs ++ q) 0 0) ≡ true
ds_first none l q = absurd (omega arith)
ds_first (one h d) l q = h

-- the digits that a text begins with are digits, and the rest stands behind them
pub digits_ds : (l : List ℕ) → Ds (digits l)
digits_ds [] = none
digits_ds (c ∷ cs) = pick (is_digit c) refl (digits_ds cs)
  where
    pick : (b : Bool) → is_digit c ≡ b → Ds (digits cs) → Ds (cond b (c ∷ digits cs) [])
    pick true e d = one e d
    pick false e d = none

pub digits_rest : (l : List ℕ) → digits l ++ drop (length (digits l)) l ≡ l
digits_rest [] = refl
digits_rest (c ∷ cs) = pick (is_digit c) (digits_rest cs)
  where
    pick : (b : Bool) → digits cs ++ drop (length (digits cs)) cs ≡ cs → cond b (c ∷ digits cs) [] ++ drop (length (cond b (c ∷ digits cs) [])) (c ∷ cs) ≡ c ∷ cs
    pick true e = ap (λ (x : List ℕ). c ∷ x) e
    pick false e = refl

-- n digits spell less than ten to n
pub value_lt : {xs : List ℕ} → Ds xs → (v n : ℕ) → v < 10 ^ n → value v xs < 10 ^ (n + length xs)
value_lt none v n h = rw add-zero h
value_lt (one {c} {cs} e d) v n h =
    rw (add-suc n (length cs), ← suc-add n (length cs)) (value_lt d (v * 10 + (c - 48)) (suc n) (rw pow-suc (omega (arith, digit_high c e))))

pub value-below : {xs : List ℕ} → Ds xs → value 0 xs < 10 ^ length xs
value-below {xs} d = rw (zero-add (length xs)) at (value_lt d 0 0 (omega arith))

-- ---- decimals

pub dec_ds : (n : ℕ) → Ds (dec n)
dec_ds = by_digits_lem (λ (n : ℕ). Ds (dec n)) (λ n h. rw (dec_small n h) (one (digit n h) none)) (λ n h d. rw (dec_big n h) (ds_append d (one (digit (n % 10) (omega arith)) none)))

pub dec-value : (n : ℕ) → value 0 (dec n) ≡ n
dec-value = by_digits_lem (λ (n : ℕ). value 0 (dec n) ≡ n) (λ n h. rw (dec_small n h) (omega arith))
    (λ n h e. rw (dec_big n h) (value-append 0 (dec (n / 10)) ((48 + n % 10) ∷ []) ∙ rw e (omega arith)))

-- digits behind a number that isn't 0 are the last of its digits
dec-more : {xs : List ℕ} → Ds xs → (v : ℕ) → 1 ≤ v → dec (value v xs) ≡ dec v ++ xs
dec-more none v h = sym (append-nil (dec v))
dec-more (one {c} {cs} e d) v h =
    let a = digit_low c e in
    let b = digit_high c e in
    let q : (v * 10 + (c - 48)) / 10 ≡ v = omega arith in
    let r : 48 + (v * 10 + (c - 48)) % 10 ≡ c = omega arith in
    dec-more d (v * 10 + (c - 48)) (omega arith) ∙ rw (dec_big (v * 10 + (c - 48)) (omega arith), q, r, append_assoc)

-- as many digits as its number has: its plain spelling
pub plain-dec : {xs : List ℕ} → Ds xs → 1 ≤ length xs → length (dec (value 0 xs)) ≡ length xs → dec (value 0 xs) ≡ xs
plain-dec none l h = absurd (omega arith)
plain-dec (one {c} {cs} e d) l h = rw (zero-add (c - 48)) (pick (eqb c 48) refl cs d (rw (zero-add (c - 48)) at h))
  where
    pick : (b : Bool) → eqb c 48 ≡ b → (cs : List ℕ) → Ds cs → length (dec (value (c - 48) cs)) ≡ suc (length cs) → dec (value (c - 48) cs) ≡ c ∷ cs
    pick true z [] none h = let q : c ≡ 48 = eqb-true c 48 z in rw q (dec_small 0 (omega arith))
    pick true z (x ∷ xs) d h =
        let q : c - 48 ≡ 0 = omega (arith, eqb-true c 48 z) in
        let g : length (dec (value 0 (x ∷ xs))) ≡ suc (suc (length xs)) = rw q at h in
        absurd (omega (arith, length_dec_le (length xs) (value 0 (x ∷ xs)) (value-below d)))
    pick false z cs d h =
        let n = eqb-false c 48 z in
        let a = digit_low c e in
        let b = digit_high c e in
        let r : 48 + (c - 48) ≡ c = omega arith in
        dec-more d (c - 48) (omega arith) ∙ rw (dec_small (c - 48) (omega arith), r)

-- ---- what stands behind a number and cannot go on with it

pub record Stops (x : ℕ) : Type 0 where
  pub digit : is_digit x ≡ false
  pub point : eqb x 46 ≡ false
  pub double : eqb x 68 ≡ false
  pub single : eqb x 69 ≡ false
  pub count : eqb x 72 ≡ false

or_left : (a b : Bool) → (a || b) ≡ false → a ≡ false
or_left true b e = e
or_left false b e = refl

or_right : (a b : Bool) → (a || b) ≡ false → b ≡ false
or_right true b e = absurd (true≢false e)
or_right false b e = e

pub stops : (x : ℕ) → joins x ≡ false → Stops x
stops x e =
    let e1 = or_right (is_digit x) _ e in
    let e2 = or_right (eqb x 43) _ e1 in
    let e3 = or_right (eqb x 45) _ e2 in
    let e4 = or_right (eqb x 46) _ e3 in
    let e5 = or_right (eqb x 68) _ e4 in
    record {
      digit = or_left (is_digit x) _ e;
      point = or_left (eqb x 46) _ e3;
      double = or_left (eqb x 68) _ e4;
      single = or_left (eqb x 69) _ e5;
      count = or_right (eqb x 69) _ e5;
    }

-- ---- places of a text: what stands from i on is p, then q

module _ (t : List ℕ) where
  pub next : (i : ℕ) (p q : List ℕ) → drop i t ≡ p ++ q → drop (i + length p) t ≡ q
  next i p q e = sym (drop-drop (length p) i t) ∙ ap (λ (l : List ℕ). drop (length p) l) e ∙ drop-append_seam p q

  pub here : (i : ℕ) (q : List ℕ) → drop i t ≡ q → get_or t i 0 ≡ get_or q 0 0
  here i q e = ap (λ (k : ℕ). get_or t k 0) (sym (add-zero i)) ∙ sym (get_or-drop i t 0 0) ∙ ap (λ (l : List ℕ). get_or l 0 0) e

  pub signed : (i : ℕ) (b : Bool) (q : List ℕ) → drop i t ≡ minus b ++ q → is_digit (get_or q 0 0) ≡ true
      → (eqb (get_or t i 0) 45 ≡ b) × (sign_len (get_or t i 0) ≡ length (minus b))
  signed i true q e l = rw (here i (45 ∷ q) e) (refl, refl)
  signed i false q e l =
      let g : 48 ≤ get_or t i 0 = rw (here i q e) (digit_low (get_or q 0 0) l) in
      (ne_eqb (get_or t i 0) 45 (omega arith), simp (ne_eqb (get_or t i 0) 43 (omega arith), ne_eqb (get_or t i 0) 45 (omega arith)))
