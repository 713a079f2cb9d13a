-- A number's spelling is a number of a sheet, and what is one is its spelling.
use mathlib.Core.Path.{◌≡◌, refl, sym, ap, ◌∙◌}
use mathlib.Core.Bool.{Bool, true, false, cond, ◌&&◌}
use mathlib.Core.List.{List, [], ◌∷◌}
use Prim.Native.Nat.{ℕ, zero, suc, ◌+◌, ◌-◌, ◌*◌, ◌^◌, ◌≤◌, ◌<◌}
use native.Mathlib.Nat.{pow-suc, mul_assoc, add-mul}
use native.Mathlib.Omega.{arith}
use native.Mathlib.Decide.{ℕ_discrete}
use lib.ListN.{length, get_or, drop, replicate}
use lib.Dec.{ltb, leb, eqb}
use borrow.Author.Tests.{le-leb, lt-ltb, eq-eqb, ne_eqb, eqb-true, leb-true, ltb-true}
use Rattle.columns.specs.Columns.{same_bytes}
use Rattle.columns.specs.Decimal.{dec, signed_dec, to_right, zero_filled}
use Rattle.columns.specs.Format.{most_integer}
use Rattle.columns.proofs.Tests.{both, both_true}
use Rattle.columns.proofs.Looks.{same_eq, same_self}
use Rattle.columns.proofs.Decimals.{dec_some, dec-byte, length_dec_below, length_right, count-is}
use Rattle.values.specs.Number.{is_digit, value}
use Rattle.values.proofs.Laws.{value-append}
use Rattle.values.proofs.Digits.{Ds, none, one, ds_append, dec_ds, dec-value, plain-dec, value-below}
use Rattle.sheets.specs.Plain.{sized, plain_of, is_plain, is_signed, signed_number, all_digits, is_status}
use Rattle.sheets.specs.WellFormed.{Proper}

-- ---- a plain number
pub plain_round : (n : ℕ) → n ≤ most_integer → is_plain (dec n) ≡ true
unfolding is_plain
plain_round n h = simp (dec-value n, same_self (dec n), le-leb n most_integer h)

pub plain_back : (f : List ℕ) → is_plain f ≡ true → (dec (plain_of f) ≡ f) × (plain_of f ≤ most_integer)
unfolding is_plain
plain_back f e =
    let p = both (same_bytes f (dec (plain_of f))) (leb (plain_of f) most_integer) e in
    (sym (same_eq f (dec (plain_of f)) p.0), leb-true _ _ p.1)

-- ---- with a sign
module _ (f : List ℕ) where
  pub is-minus : get_or f 0 0 ≡ 45 → (is_signed f ≡ is_plain (drop 1 f) && ltb 0 (plain_of (drop 1 f))) × (signed_number f ≡ sized true (plain_of (drop 1 f)))
  unfolding is_signed signed_number
  is-minus e = rw e (refl, refl)

  pub is-unsigned : (get_or f 0 0 ≡ 45 → ⊥) → (is_signed f ≡ is_plain f) × (signed_number f ≡ sized false (plain_of f))
  unfolding is_signed signed_number
  is-unsigned e = rw (ne_eqb _ _ e) (refl, refl)

spell-signed : (b : Bool) (n : ℕ) → signed_dec (sized b n) ≡ cond b (45 ∷ dec n) (dec n)
unfolding signed_dec
spell-signed true n = refl
spell-signed false n = refl

pub signed_round : (b : Bool) (n : ℕ) → n ≤ most_integer → (b ≡ true → n ≡ 0 → ⊥) → (is_signed (signed_dec (sized b n)) ≡ true) × (signed_number (signed_dec (sized b n)) ≡ sized b n)
signed_round true n h k =
    let z : n ≡ 0 → ⊥ = k refl in
    let e = is-minus (45 ∷ dec n) refl in
    rw (spell-signed true n, e.0, e.1, dec-value n) (both_true (plain_round n h) (lt-ltb 0 n (omega arith)), refl)
signed_round false n h k =
    let z : get_or (dec n) 0 0 ≡ 45 → ⊥ = omega (arith, dec-byte n 0 (dec_some n)) in
    let e = is-unsigned (dec n) z in
    rw (spell-signed false n, e.0, e.1, dec-value n) (plain_round n h, refl)

pub signed_back : (f : List ℕ) → is_signed f ≡ true → (signed_dec (signed_number f) ≡ f) × Proper (signed_number f)
signed_back f h = elim (ℕ_discrete (get_or f 0 0) 45) [
  | yes e ↦ minus_back e (both (is_plain (drop 1 f)) (ltb 0 (plain_of (drop 1 f))) (sym (is-minus f e).0 ∙ h))
  | no e ↦ plain (plain_back f (sym (is-unsigned f e).0 ∙ h)) e
]
  where
    cut : (l : List ℕ) → get_or l 0 0 ≡ 45 → 45 ∷ drop 1 l ≡ l
    cut [] e = absurd (omega arith)
    cut (b ∷ l) e = rw e

    minus_back : get_or f 0 0 ≡ 45 → (is_plain (drop 1 f) ≡ true) × (ltb 0 (plain_of (drop 1 f)) ≡ true) → (signed_dec (signed_number f) ≡ f) × Proper (signed_number f)
    minus_back e p =
        let b = plain_back (drop 1 f) p.0 in
        let z : plain_of (drop 1 f) ≡ 0 → ⊥ = omega (arith, ltb-true 0 (plain_of (drop 1 f)) p.1) in
        rw (is-minus f e).1 (spell-signed true (plain_of (drop 1 f)) ∙ rw b.0 (cut f e), record { small = b.1; minus = λ _. z })

    plain : (dec (plain_of f) ≡ f) × (plain_of f ≤ most_integer) → (get_or f 0 0 ≡ 45 → ⊥) → (signed_dec (signed_number f) ≡ f) × Proper (signed_number f)
    plain b e = rw (is-unsigned f e).1 (spell-signed false (plain_of f) ∙ b.0, record { small = b.1; minus = λ k. let z : ◌≡◌ {A = ℕ} 0 1 = cc in absurd (omega arith) })

-- ---- eight digits
digits_all : {f : List ℕ} → Ds f → all_digits f ≡ true
unfolding all_digits
digits_all none = refl
digits_all (one e d) = both_true e (digits_all d)

all_digits_lem : (f : List ℕ) → all_digits f ≡ true → Ds f
unfolding all_digits
all_digits_lem [] e = none
all_digits_lem (b ∷ bs) e =
    let p = both (is_digit b) (all_digits bs) e in
    one p.0 (all_digits_lem bs p.1)

pub status_is : {f : List ℕ} → Ds f → length f ≡ 8 → is_status f ≡ true
unfolding is_status
status_is {f} d e = both_true (eq-eqb (length f) 8 e) (digits_all d)

status_has : (f : List ℕ) → is_status f ≡ true → Ds f × (length f ≡ 8)
unfolding is_status
status_has f e =
    let p = both (eqb (length f) 8) (all_digits f) e in
    (all_digits_lem f p.1, eqb-true (length f) 8 p.0)

-- digits behind v
value-behind : (xs : List ℕ) (v : ℕ) → value v xs ≡ v * 10 ^ length xs + plain_of xs
value-behind [] v = omega arith
value-behind (c ∷ cs) v =
    rw pow-suc (omega (arith, value-behind cs (v * 10 + (c - 48)), value-behind cs (0 * 10 + (c - 48)), add-mul (v * 10) (c - 48) (10 ^ length cs), mul_assoc v 10 (10 ^ length cs)))

-- eight digits behind a 1
pub one-front : {f : List ℕ} → Ds f → length f ≡ 8 → (plain_of (49 ∷ f) ≡ 100000000 + plain_of f) × (plain_of f < 100000000)
one-front {f} d e = (value-behind f 1 ∙ rw e, rw e at (value-below d))

pub behind-one : (f : List ℕ) → is_status f ≡ true → (dec (100000000 + plain_of f) ≡ 49 ∷ f) × (plain_of f < 100000000)
behind-one f s =
    let h = status_has f s in
    let o = one-front h.0 h.1 in
    let n : 9 ≡ length (dec (plain_of (49 ∷ f))) = count-is 8 (plain_of (49 ∷ f)) (rw o.0 (omega arith)) (rw o.0 (omega (arith, o.1))) in
    (ap dec (sym o.0) ∙ plain-dec (one refl h.0) (omega arith) (sym n ∙ omega (arith, h.1)), o.1)

noughts : (k : ℕ) → Ds (replicate k 48) × (plain_of (replicate k 48) ≡ 0)
noughts zero = (none, refl)
noughts (suc k) = (one refl (noughts k).0, (noughts k).1)

pub status_round : (n : ℕ) → n < 100000000 → (is_status (zero_filled 8 n) ≡ true) × (plain_of (zero_filled 8 n) ≡ n)
unfolding to_right
status_round n h =
    let z = noughts (8 - length (dec n)) in (
      status_is (ds_append z.0 (dec_ds n)) (length_right 48 8 (dec n) (length_dec_below 8 n (omega arith) h)),
      value-append 0 (replicate (8 - length (dec n)) 48) (dec n) ∙ rw z.1 (dec-value n),
    )

pub status_back : (f : List ℕ) → is_status f ≡ true → zero_filled 8 (plain_of f) ≡ f
status_back f e =
    let b = behind-one f e in
    let r = status_round (plain_of f) b.1 in
    let g : 49 ∷ zero_filled 8 (plain_of f) ≡ 49 ∷ f = sym (behind-one (zero_filled 8 (plain_of f)) r.0).0 ∙ rw r.1 b.0 in
    ap (λ (x : List ℕ). drop 1 x) g
