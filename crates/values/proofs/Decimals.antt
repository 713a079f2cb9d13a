-- A number in plain decimal that is read from a text: it is spelt so there, and where it is spelt it is read. Assumes nothing.
use mathlib.Core.Path.{◌≡◌, refl, sym, ap, ◌∙◌}
use mathlib.Core.Bool.{Bool, true, false, cond, ◌&&◌}
use mathlib.Core.List.{List, [], ◌∷◌, ◌++◌, append_assoc}
use Prim.Native.Nat.{ℕ, suc, ◌+◌, ◌-◌, ◌*◌, ◌/◌, ◌%◌, ◌^◌, ◌≤◌, ◌<◌}
use native.Mathlib.Nat.{add-zero, zero-add}
use native.Mathlib.Omega.{arith}
use native.Mathlib.Decide.{ℕ_discrete}
use lib.ListN.{length, get_or, drop}
use lib.Dec.{ltb, eqb}
use borrow.Author.Tests.{ltb-true, eqb-true, eqb-false, ne_eqb, lt-ltb}
use Rattle.columns.specs.Decimal.{dec}
use Rattle.columns.proofs.Decimals.{dec_small, dec_big, dec_some, dec_first, dec-nought}
use Rattle.columns.proofs.Tests.{both_left}
use Rattle.values.specs.declared.Decimal.{Decimal}
use Rattle.values.specs.Number.{is_digit, value}
use Rattle.values.specs.Direct.{longer, decimal}
use Rattle.values.proofs.Digits.{Ds, none, one, digit_low, digit_high, dec_ds, dec-value, next}

-- a number and where it ends
abbrev pub up_to : ℕ → ℕ → Decimal
up_to v k = record { value = v; end = k }

-- ---- what is read is spelt so

-- one more digit
dec-next : (v c : ℕ) → 1 ≤ v → is_digit c ≡ true → dec (v * 10 + (c - 48)) ≡ dec v ++ (c ∷ [])
dec-next v c h e =
    let a = digit_low c e in
    let b = digit_high c e in
    let q : (v * 10 + (c - 48)) / 10 ≡ v = omega arith in
    let r : 48 + (v * 10 + (c - 48)) % 10 ≡ c = omega arith in
    rw (dec_big (v * 10 + (c - 48)) (omega arith), q, r)

-- the digits behind v go on with it
longer-spelt : (l t : List ℕ) (v k : ℕ) → drop k l ≡ t → 1 ≤ v → dec v ++ t ≡ dec (longer t v k).value ++ drop (longer t v k).end l
longer-spelt l [] v k e h = ap (λ (x : List ℕ). dec v ++ x) (sym e)
longer-spelt l (c ∷ cs) v k e h = pick (is_digit c && ltb v (10 ^ 16)) refl (longer-spelt l cs (v * 10 + (c - 48)) (k + 1) (next l k (c ∷ []) cs e) (omega arith))
  where
    w : ℕ
    w = v * 10 + (c - 48)

    pick : (b : Bool) → (is_digit c && ltb v (10 ^ 16)) ≡ b → dec w ++ cs ≡ dec (longer cs w (k + 1)).value ++ drop (longer cs w (k + 1)).end l
        → dec v ++ (c ∷ cs) ≡ dec (cond b (longer cs w (k + 1)) (up_to v k)).value ++ drop (cond b (longer cs w (k + 1)) (up_to v k)).end l
    pick true d ih = sym (ap (λ (x : List ℕ). x ++ cs) (dec-next v c h (both_left (is_digit c) (ltb v (10 ^ 16)) d)) ∙ append_assoc (dec v) (c ∷ []) cs) ∙ ih
    pick false d ih = ap (λ (x : List ℕ). dec v ++ x) (sym e)

longer-below : (t : List ℕ) (v k : ℕ) → v < 10 ^ 17 → (longer t v k).value < 10 ^ 17
longer-below [] v k h = h
longer-below (c ∷ cs) v k h = pick (is_digit c) refl (ltb v (10 ^ 16)) refl (longer-below cs (v * 10 + (c - 48)) (k + 1))
  where
    w : ℕ
    w = v * 10 + (c - 48)

    pick : (a : Bool) → is_digit c ≡ a → (b : Bool) → ltb v (10 ^ 16) ≡ b → (w < 10 ^ 17 → (longer cs w (k + 1)).value < 10 ^ 17)
        → (cond (a && b) (longer cs w (k + 1)) (up_to v k)).value < 10 ^ 17
    pick true d true s ih = ih (omega (arith, digit_high c d, ltb-true v (10 ^ 16) s))
    pick true d false s ih = h
    pick false d b s ih = h

module _ (l : List ℕ) where
  spelt-from : (t : List ℕ) (at : ℕ) → drop at l ≡ t → ((decimal t at).end ≡ at → ⊥) → t ≡ dec (decimal t at).value ++ drop (decimal t at).end l
  spelt-from [] at e n = absurd (n refl)
  spelt-from (c ∷ cs) at e n = pick (is_digit c) refl (eqb c 48) refl n
    where
      r : drop (at + 1) l ≡ cs
      r = next l at (c ∷ []) cs e

      x : Decimal
      x = longer cs (c - 48) (at + 1)

      pick : (a : Bool) → is_digit c ≡ a → (b : Bool) → eqb c 48 ≡ b → ((cond a (cond b (up_to 0 (at + 1)) x) (up_to 0 at)).end ≡ at → ⊥)
          → c ∷ cs ≡ dec (cond a (cond b (up_to 0 (at + 1)) x) (up_to 0 at)).value ++ drop (cond a (cond b (up_to 0 (at + 1)) x) (up_to 0 at)).end l
      pick true d true z n = let q : c ≡ 48 = eqb-true c 48 z in rw (dec-nought, r, q)
      pick true d false z n =
          let a = digit_low c d in
          let b = digit_high c d in
          let m = eqb-false c 48 z in
          let s : 48 + (c - 48) ≡ c = omega arith in
          ap (λ (y : ℕ). y ∷ cs) (sym s) ∙ ap (λ (y : List ℕ). y ++ cs) (sym (dec_small (c - 48) (omega arith))) ∙ longer-spelt l cs (c - 48) (at + 1) r (omega arith)
      pick false d b z n = absurd (n refl)

  -- a number that is read stands there, plainly
  pub decimal-spelt : (at : ℕ) → ((decimal (drop at l) at).end ≡ at → ⊥) → drop at l ≡ dec (decimal (drop at l) at).value ++ drop (decimal (drop at l) at).end l
  decimal-spelt at n = spelt-from (drop at l) at refl n

-- it has seventeen digits at most
pub decimal-below : (t : List ℕ) (at : ℕ) → (decimal t at).value < 10 ^ 17
decimal-below [] at = omega arith
decimal-below (c ∷ cs) at = pick (is_digit c) refl (eqb c 48)
  where
    pick : (a : Bool) → is_digit c ≡ a → (b : Bool) → (cond a (cond b (up_to 0 (at + 1)) (longer cs (c - 48) (at + 1))) (up_to 0 at)).value < 10 ^ 17
    pick true d true = omega arith
    pick true d false = longer-below cs (c - 48) (at + 1) (omega (arith, digit_high c d))
    pick false d b = omega arith

-- ---- what is spelt so is read

value_grows : {ds : List ℕ} → Ds ds → (v : ℕ) → v ≤ value v ds
value_grows none v = omega arith
value_grows (one {c} {cs} h d) v = omega (arith, value_grows d (v * 10 + (c - 48)))

longer-read : {ds : List ℕ} → Ds ds → (q : List ℕ) → is_digit (get_or q 0 0) ≡ false → (v k : ℕ) → value v ds < 10 ^ 17 → longer (ds ++ q) v k ≡ up_to (value v ds) (k + length ds)
longer-read none [] e v k h = ap (up_to v) (sym (add-zero k))
longer-read none (c ∷ q) e v k h = simp e (ap (up_to v) (sym (add-zero k)))
longer-read (one {c} {cs} i d) q e v k h =
    let s : v < 10 ^ 16 = omega (arith, value_grows d (v * 10 + (c - 48))) in
    let n : k + 1 + length cs ≡ k + suc (length cs) = omega arith in
    simp (i, lt-ltb v (10 ^ 16) s) (longer-read d q e (v * 10 + (c - 48)) (k + 1) h ∙ ap (up_to (value (v * 10 + (c - 48)) cs)) n)

module _ (n at : ℕ) (q : List ℕ) (h : n < 10 ^ 17) (e : is_digit (get_or q 0 0) ≡ false) where
  read_first : {ds : List ℕ} → Ds ds → 1 ≤ length ds → value 0 ds ≡ n → 49 ≤ get_or ds 0 0 → decimal (ds ++ q) at ≡ up_to n (at + length ds)
  read_first none l v f = absurd (omega arith)
  read_first (one {c} {cs} i d) l v f =
      let z : value (c - 48) cs ≡ n = ap (λ (x : ℕ). value x cs) (sym (zero-add (c - 48))) ∙ v in
      let k : at + 1 + length cs ≡ at + suc (length cs) = omega arith in
      simp (i, ne_eqb c 48 (omega arith)) (longer-read d q e (c - 48) (at + 1) (rw z h) ∙ rw (z, k))

  -- a number that stands there plainly is read
  pub decimal-read : decimal (dec n ++ q) at ≡ up_to n (at + length (dec n))
  decimal-read = elim (ℕ_discrete n 0) [
    | yes z ↦ rw (z, dec-nought)
    | no z ↦ read_first (dec_ds n) (dec_some n) (dec-value n) (dec_first n (omega arith))
  ]
