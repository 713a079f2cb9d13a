-- In a value's spelling an H (72) ends the one to three digits of a string's count; no other spelling has one. Assumes nothing.
use mathlib.Core.Path.{◌≡◌, refl, sym, ap, ◌∙◌}
use mathlib.Core.Bool.{Bool, true, false, cond, ◌||◌}
use mathlib.Core.List.{List, [], ◌∷◌, ◌++◌, append_assoc, append-nil}
use Prim.Native.Nat.{ℕ, zero, suc, ◌+◌, ◌≤◌, ◌<◌}
use native.Mathlib.Nat.{zero-add}
use native.Mathlib.Omega.{arith}
use lib.ListN.{length, get_or, take, drop, length-append, length-take, length-drop}
use lib.Dec.{ltb}
use Rattle.columns.specs.Decimal.{dec, minus}
use Rattle.columns.proofs.Decimals.{dec_some, length_dec_le}
use Rattle.values.specs.declared.Value.{Value}
use Rattle.values.specs.declared.Value.TheVariants.{Default, Whole, Real, Text}
use Rattle.std.specs.Prelude.{Some}
use Rattle.values.specs.Value.{text, letter, ten_to, exponent, head, spelled, Fine, fine_text}
use Rattle.values.specs.Strict.{strict_of, meant}
use Rattle.values.specs.Writing.{front, Inside}
use Rattle.values.proofs.Digits.{Ds, none, one, digit_high, dec_ds, here, next}
use Rattle.values.proofs.OneSpelling.{Spelt, sound}
use Rattle.values.proofs.Backs.{strict_inside}

-- the value that was read back is what the text spells
pub meant_is : (l : List ℕ) {v : Value} → strict_of l ≡ Some v → meant l ≡ v
unfolding meant
meant_is l e = rw e

-- ---- bytes below H

data Low : List ℕ → Type 0 where
  low_none : Low []
  low_one : (c : ℕ) {cs : List ℕ} → c < 72 → Low cs → Low (c ∷ cs)

low_append : {xs ys : List ℕ} → Low xs → Low ys → Low (xs ++ ys)
low_append low_none y = y
low_append (low_one c h x) y = low_one c h (low_append x y)

low_digits : {xs : List ℕ} → Ds xs → Low xs
low_digits none = low_none
low_digits (one {c} h d) = low_one c (omega (arith, digit_high c h)) (low_digits d)

low_dec : (n : ℕ) → Low (dec n)
low_dec n = low_digits (dec_ds n)

low_minus : (neg : Bool) → Low (minus neg)
low_minus true = low_one 45 (omega arith) low_none
low_minus false = low_none

low_letter : (double : Bool) → letter double < 72
low_letter true = omega arith
low_letter false = omega arith

low_exponent : (eneg : Bool) (e : ℕ) (double : Bool) → Low (exponent eneg e double)
low_exponent eneg e double = pick (double || ltb 0 e)
  where
    pick : (b : Bool) → Low (cond b (ten_to eneg e double) [])
    pick true = low_one (letter double) (low_letter double) (low_append (low_minus eneg) (low_dec e))
    pick false = low_none

low_at : {xs : List ℕ} → Low xs → (q : List ℕ) (i : ℕ) → i < length xs → get_or (xs ++ q) i 0 < 72
low_at low_none q i h = absurd (omega arith)
low_at (low_one c k x) q zero h = k
low_at (low_one c k x) q (suc i) h = low_at x q i (omega arith)

-- ---- where the first H stands

data Fronted (l : List ℕ) : ℕ → Type 0 where
  one_digit : 2 < length l → get_or l 1 0 ≡ 72 → Fronted l 2
  two_digits : 3 < length l → get_or l 1 0 < 72 → get_or l 2 0 ≡ 72 → Fronted l 3
  three-digits : 4 < length l → get_or l 1 0 < 72 → get_or l 2 0 < 72 → get_or l 3 0 ≡ 72 → Fronted l 4
  no_count : ((i : ℕ) → i < length l → get_or l i 0 < 72) → {n : ℕ} → n ≡ length l → Fronted l n

low_fronted : (l : List ℕ) {xs : List ℕ} → Low xs → xs ≡ l → Fronted l (length xs)
low_fronted l {xs} x e = no_count (λ i h. rw (sym e ∙ sym (append-nil xs)) (low_at x [] i (rw e h))) (ap length e)

-- a count of k digits, H, and characters
head_fronted : (l ds bs : List ℕ) → Low ds → l ≡ ds ++ (72 ∷ bs) → 1 ≤ length ds → length ds ≤ 3 → 1 ≤ length bs → Fronted l (length ds + 1)
head_fronted l ds bs x e a b s = pick (length ds) refl
  where
    long : length l ≡ length ds + suc (length bs)
    long = ap length e ∙ length-append ds (72 ∷ bs)

    low : (i : ℕ) → i < length ds → get_or l i 0 < 72
    low i h = rw e (low_at x (72 ∷ bs) i h)

    mark : get_or l (length ds) 0 ≡ 72
    mark = here l (length ds) (72 ∷ bs) (rw zero-add at (next l 0 ds (72 ∷ bs) e))

    pick : (k : ℕ) → length ds ≡ k → Fronted l (k + 1)
    pick zero z = absurd (omega arith)
    pick (suc zero) z = one_digit (omega (arith, long)) (rw z at mark)
    pick (suc (suc zero)) z = two_digits (omega (arith, long)) (low 1 (omega arith)) (rw z at mark)
    pick (suc (suc (suc zero))) z = three-digits (omega (arith, long)) (low 1 (omega arith)) (low 2 (omega arith)) (rw z at mark)
    pick (suc (suc (suc (suc k)))) z = absurd (omega arith)

fronted : (l : List ℕ) (v : Value) → Spelt l v → Inside (length l) v → Fronted l (length (front v))
unfolding spelled
fronted l Default s i = low_fronted l low_none s.text
fronted l (Whole neg size) s i = low_fronted l (low_append (low_minus neg) (low_dec size)) s.text
fronted l (Real neg m eneg e double) s i = low_fronted l (low_append (low_minus neg) (low_append (low_dec m) (low_one 46 (omega arith) (low_exponent eneg e double)))) s.text
fronted l (Text start count) s i =
    let bs = take count (drop start l) in
    let n : length bs ≡ count = simp (length-take, length-drop) (omega arith) in
    let f : (1 ≤ length bs) × (length bs ≤ 999) = limits bs s.fine in
    let e : l ≡ dec count ++ (72 ∷ bs) = sym s.text ∙ ap (λ (k : ℕ). head k ++ bs) n ∙ append_assoc (dec count) (72 ∷ []) bs in
    rw (length-append (dec count) (72 ∷ [])) (head_fronted l (dec count) bs (low_dec count) e (dec_some count) (length_dec_le 2 count (omega arith)) f.0)
  where
    limits : (bs : List ℕ) → Fine (text bs) → (1 ≤ length bs) × (length bs ≤ 999)
    limits bs (fine_text cs a b) = (a, b)

-- ---- as it is looked for

module _ (l : List ℕ) (s : strict_of l ≡ Some (meant l)) where
  at_front : Fronted l (length (front (meant l)))
  at_front = fronted l (meant l) (sound l s) (rw s at (strict_inside l))

  pub front_short : length l < 3 → length l ≡ length (front (meant l))
  front_short h = pick at_front
    where
      pick : {n : ℕ} → Fronted l n → length l ≡ n
      pick (one_digit a b) = absurd (omega arith)
      pick (two_digits a b c) = absurd (omega arith)
      pick (three-digits a b c d) = absurd (omega arith)
      pick (no_count a e) = sym e

  module _ (h : 3 ≤ length l) where
    pub front-one : get_or l 1 0 ≡ 72 → 2 ≡ length (front (meant l))
    front-one x = pick at_front
      where
        pick : {n : ℕ} → Fronted l n → 2 ≡ n
        pick (one_digit a b) = refl
        pick (two_digits a b c) = absurd (omega arith)
        pick (three-digits a b c d) = absurd (omega arith)
        pick (no_count a e) = absurd (omega (arith, a 1 (omega arith)))

    module _ (x : get_or l 1 0 ≡ 72 → ⊥) where
      pub front-two : get_or l 2 0 ≡ 72 → 3 ≡ length (front (meant l))
      front-two y = pick at_front
        where
          pick : {n : ℕ} → Fronted l n → 3 ≡ n
          pick (one_digit a b) = absurd (x b)
          pick (two_digits a b c) = refl
          pick (three-digits a b c d) = absurd (omega arith)
          pick (no_count a e) = absurd (omega (arith, a 2 (omega arith)))

      module _ (y : get_or l 2 0 ≡ 72 → ⊥) where
        pub front_whole : length l < 4 → length l ≡ length (front (meant l))
        front_whole z = pick at_front
          where
            pick : {n : ℕ} → Fronted l n → length l ≡ n
            pick (one_digit a b) = absurd (x b)
            pick (two_digits a b c) = absurd (y c)
            pick (three-digits a b c d) = absurd (omega arith)
            pick (no_count a e) = sym e

        pub front-three : 4 ≤ length l → get_or l 3 0 ≡ 72 → 4 ≡ length (front (meant l))
        front-three z w = pick at_front
          where
            pick : {n : ℕ} → Fronted l n → 4 ≡ n
            pick (one_digit a b) = absurd (x b)
            pick (two_digits a b c) = absurd (y c)
            pick (three-digits a b c d) = refl
            pick (no_count a e) = absurd (omega (arith, a 3 (omega arith)))

        pub front_all : (get_or l 3 0 ≡ 72 → ⊥) → length l ≡ length (front (meant l))
        front_all w = pick at_front
          where
            pick : {n : ℕ} → Fronted l n → length l ≡ n
            pick (one_digit a b) = absurd (x b)
            pick (two_digits a b c) = absurd (y c)
            pick (three-digits a b c d) = absurd (w d)
            pick (no_count a e) = sym e
