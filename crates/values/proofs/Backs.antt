-- What the functions of `values_strict` go by, one law for each need. Assumes nothing.
use mathlib.Core.Path.{◌≡◌, refl, sym, ap, ◌∙◌}
use mathlib.Core.Bool.{Bool, true, false, cond, ◌&&◌, ◌||◌, and-false}
use mathlib.Core.List.{List, [], ◌∷◌}
use Prim.Native.Nat.{ℕ, suc, ◌+◌, ◌-◌, ◌*◌, ◌^◌, ◌≤◌, ◌<◌, min}
use native.Mathlib.Nat.{lt_of_lt_of_le, pow-le-pow_right, pow-suc}
use native.Mathlib.Decide.{dec_lt}
use native.Mathlib.Omega.{arith}
use native.Mathlib.Numerals.{add-one}
use lib.ListN.{length, get_or, drop, drop_of_length-le}
use lib.Seq.{drop-cons}
use lib.Dec.{ltb, leb, eqb}
use borrow.Author.Tests.{leb-true, eqb-true, eq-eqb, ne_eqb, lt-ltb, le-ltb, le-leb, lt-leb}
use Rattle.columns.specs.Columns.{columns, printable, same_bytes}
use Rattle.columns.specs.Decimal.{minus}
use Rattle.columns.proofs.Columns.{columns_rest}
use Rattle.columns.proofs.Tests.{both_left}
use Rattle.values.specs.declared.Decimal.{Decimal}
use Rattle.values.specs.declared.Number.{Number}
use Rattle.values.specs.declared.Number.TheVariants.{Whole as WholeOf, Real as RealOf, Beyond, Bad}
use Rattle.values.specs.declared.Head.{Head}
use Rattle.values.specs.declared.Head.TheVariants.{Count, Plain}
use Rattle.values.specs.declared.Value.{Value}
use Rattle.values.specs.declared.Value.TheVariants.{Default, Whole, Real, Text}
use Rattle.std.specs.Prelude.{Option, Some, None}
use Rattle.values.specs.Number.{is_digit}
use Rattle.values.specs.Head.{head_of}
use Rattle.values.specs.Value.{head}
use Rattle.values.specs.Writing.{Inside, Placed}
use Rattle.values.specs.Strict.{spelt, numeral, by_head, strict_of}
use Rattle.values.specs.Direct.{longer, decimal, is_whole, is_normal, as_whole, as_real, by_exponent, behind_letter, behind_point, behind_count, behind_digits, direct_of}
use Rattle.values.proofs.Ends.{inside}
use Rattle.values.proofs.Digits.{here}
use Rattle.values.proofs.Decimals.{up_to}
use Rattle.values.proofs.Direct.{direct}

-- ---- digits

is_digit_lem : (c : ℕ) → 48 ≤ c → c ≤ 57 → is_digit c ≡ true
is_digit_lem c a b = simp (le-leb 48 c a, le-leb c 57 b)

low_digit : (c : ℕ) → c < 48 → is_digit c ≡ false
low_digit c h = simp (lt-leb 48 c h)

high_digit : (c : ℕ) → 57 < c → is_digit c ≡ false
high_digit c h = simp (le-leb 48 c (omega arith), lt-leb c 57 h)

module _ (at : ℕ) where
  none_here : (t : List ℕ) → is_digit (get_or t 0 0) ≡ false → up_to 0 at ≡ decimal t at
  none_here [] e = refl
  none_here (c ∷ cs) e = simp e

module _ (l : List ℕ) (at : ℕ) {c : ℕ} (e : c ≡ get_or l at 0) where
  none-at : is_digit c ≡ false → up_to 0 at ≡ decimal (drop at l) at
  none-at h = none_here at (drop at l) (ap is_digit (sym (e ∙ here l at (drop at l) refl)) ∙ h)

  pub decimal_low : c < 48 → up_to 0 at ≡ decimal (drop at l) at
  decimal_low h = none-at (low_digit c h)

  pub decimal_high : 57 < c → up_to 0 at ≡ decimal (drop at l) at
  decimal_high h = none-at (high_digit c h)

  pub decimal_in : 48 ≤ c → at + 1 ≤ length l
  decimal_in h = omega (arith, inside l at (omega arith))

  pub decimal-stop : {stop : ℕ} → 48 ≤ c → stop ≡ min (length l) (at + 17) → at + 1 ≤ stop
  decimal-stop h es = omega (arith, decimal_in h)

  first_at : 48 ≤ c → c ≤ 57 → decimal (drop at l) at ≡ cond (eqb c 48) (up_to 0 (at + 1)) (longer (drop (at + 1) l) (c - 48) (at + 1))
  first_at a b = rw (drop-cons l at 0 (inside l at (omega arith)), ← e, is_digit_lem c a b, add-one)

  pub decimal-nought : 48 ≤ c → c ≤ 57 → c ≡ 48 → up_to 0 (at + 1) ≡ decimal (drop at l) at
  decimal-nought a b z = sym (first_at a b ∙ rw z)

  pub decimal_first : {d : ℕ} → 48 ≤ c → c ≤ 57 → (c ≡ 48 → ⊥) → d ≡ c - 48 → longer (drop (at + 1) l) d (at + 1) ≡ decimal (drop at l) at
  decimal_first a b n ed = rw ed (sym (first_at a b ∙ rw (ne_eqb c 48 n)))

-- v has n + 1 digits
abbrev pub Long : ℕ → ℕ → Type 0
Long v n = (10 ^ n ≤ v) × (v < 10 ^ suc n)

long_below : (v n m : ℕ) → Long v n → n < m → v < 10 ^ m
long_below v n m h l = lt_of_lt_of_le h.1 (pow-le-pow_right (omega arith) l)

pub long_first : (at : ℕ) {c d : ℕ} → 48 ≤ c → c ≤ 57 → (c ≡ 48 → ⊥) → d ≡ c - 48 → Long d (at + 1 - (at + 1))
long_first at a b n e = let z : at + 1 - (at + 1) ≡ 0 = omega arith in rw z (omega arith, omega arith)

pub first_below : {c d : ℕ} → c ≤ 57 → d ≡ c - 48 → d < 10 ^ 17
first_below h e = omega arith

long_next : (v n d : ℕ) → Long v n → d ≤ 9 → Long (v * 10 + d) (suc n)
long_next v n d h l = (omega (arith, pow-suc 10 n, h.0), omega (arith, pow-suc 10 n, pow-suc 10 (suc n), h.1))

-- what the loop has in hand at k, which is not past stop: all of the number is the rest of it
module _ (l : List ℕ) (at v k stop : ℕ) {r : Decimal} (es : stop ≡ min (length l) (at + 17)) (e : longer (drop k l) v k ≡ r) where
  step : k < length l → longer (drop k l) v k ≡ cond (is_digit (get_or l k 0) && ltb v (10 ^ 16)) (longer (drop (k + 1) l) (v * 10 + (get_or l k 0 - 48)) (k + 1)) (up_to v k)
  step h = rw (drop-cons l k 0 h, add-one)

  pub longer_low : k < stop → get_or l k 0 < 48 → up_to v k ≡ r
  longer_low h a = sym (step (omega arith) ∙ rw (low_digit (get_or l k 0) a)) ∙ e

  pub longer_high : k < stop → 57 < get_or l k 0 → up_to v k ≡ r
  longer_high h a = sym (step (omega arith) ∙ rw (high_digit (get_or l k 0) a)) ∙ e

  module _ (o : at < k) (z : Long v (k - (at + 1))) where
    pub longer-stop : stop ≤ k → k ≤ stop → up_to v k ≡ r
    longer-stop h i = elim (dec_lt k (length l)) [
      | yes t ↦ full t
      | no t ↦ let g : length l ≤ k = omega arith in sym (ap (λ (t : List ℕ). longer t v k) (drop_of_length-le l g)) ∙ e
    ]
      where
        most : k < length l → 10 ^ 16 ≤ v
        most t = let n : k - (at + 1) ≡ 16 = omega arith in (rw n at z).0

        full : k < length l → up_to v k ≡ r
        full t = sym (step t ∙ rw (le-ltb v (10 ^ 16) (most t), and-false)) ∙ e

    module _ {d : ℕ} (h : k < stop) (a : 48 ≤ get_or l k 0) (b : get_or l k 0 ≤ 57) (ed : d ≡ get_or l k 0 - 48) where
      pub longer-next : longer (drop (k + 1) l) (v * 10 + d) (k + 1) ≡ r
      longer-next = rw ed (sym (step (omega arith) ∙ rw (is_digit_lem (get_or l k 0) a b, lt-ltb v (10 ^ 16) (long_below v (k - (at + 1)) 16 z (omega arith)))) ∙ e)

      pub longer_long : Long (v * 10 + d) (k + 1 - (at + 1))
      longer_long = let n : k + 1 - (at + 1) ≡ suc (k - (at + 1)) = omega arith in rw n (long_next v (k - (at + 1)) d z (omega arith))

      pub longer-below : v * 10 + d < 10 ^ 17
      longer-below = long_below (v * 10 + d) (suc (k - (at + 1))) 17 (long_next v (k - (at + 1)) d z (omega arith)) (omega arith)

pub ruleset decimals = (decimal_low, decimal_high, decimal_in, decimal-stop, decimal-nought, decimal_first, long_first, first_below, longer_low, longer_high, longer-stop, longer-next, longer_long, longer-below)

-- ---- limits

module _ (neg : Bool) (size : ℕ) where
  module _ {b : Bool} (e : b ≡ is_whole neg size) where
    pub whole_fits : b ≡ true → size < 2 ^ 32
    whole_fits h = omega (arith, leb-true size 2147483647 (both_left (leb size 2147483647) _ (sym e ∙ h)))

    pub whole_yes : b ≡ true → Some (Whole neg size) ≡ as_whole neg size
    unfolding as_whole
    whole_yes h = rw (← e, h)

    pub whole_no : b ≡ false → None ≡ as_whole neg size
    unfolding as_whole
    whole_no h = rw (← e, h)

module _ (neg : Bool) (m : ℕ) (eneg : Bool) (e : ℕ) where
  module _ {b : Bool} (q : b ≡ is_normal neg m eneg e) where
    pub real_fits : b ≡ true → e < 2 ^ 32
    real_fits h = omega (arith, leb-true e 400 (both_left (leb e 400) _ (sym q ∙ h)))

    pub real_yes : (double : Bool) → b ≡ true → Some (Real neg m eneg e double) ≡ as_real neg m eneg e double
    unfolding as_real
    real_yes double h = rw (← q, h)

    pub real_no : (double : Bool) → b ≡ false → None ≡ as_real neg m eneg e double
    unfolding as_real
    real_no double h = rw (← q, h)

pub ruleset limits = (whole_fits, whole_yes, whole_no, real_fits, real_yes, real_no)

-- ---- what stands behind the digits

module _ (l : List ℕ) (neg : Bool) (m : ℕ) (double : Bool) (i : ℕ) {b a : ℕ} (eb : b ≡ get_or l i 0) (ea : a ≡ length (minus (eqb b 45))) where
  pub letter_in : i ≤ length l → i + a ≤ length l
  letter_in h = rw (ea, eb) (pick (eqb (get_or l i 0) 45) refl)
    where
      pick : (c : Bool) → eqb (get_or l i 0) 45 ≡ c → i + length (minus c) ≤ length l
      pick true e = let q = eqb-true (get_or l i 0) 45 e in omega (arith, inside l i (omega arith))
      pick false e = omega arith

  module _ {x : Decimal} (ex : x ≡ decimal (drop (i + a) l) (i + a)) where
    letter-is : behind_letter l neg m double i ≡ by_exponent (length l) (i + a) x neg m (eqb b 45) double
    unfolding behind_letter
    letter-is = rw (ex, ea, eb)

    pub letter-none : x.end ≡ i + a → None ≡ behind_letter l neg m double i
    letter-none h = sym (letter-is ∙ rw (eq-eqb x.end (i + a) h))

    pub letter-more : (x.end ≡ i + a → ⊥) → (x.end ≡ length l → ⊥) → None ≡ behind_letter l neg m double i
    letter-more h n = sym (letter-is ∙ rw (ne_eqb x.end (i + a) h, ne_eqb x.end (length l) n))

    module _ {c : Bool} (h : x.end ≡ i + a → ⊥) (z : x.end ≡ length l) (ec : c ≡ (double || ltb 0 x.value)) where
      pub letter_real : {r : Option Value} → c ≡ true → r ≡ as_real neg m (eqb b 45) x.value double → r ≡ behind_letter l neg m double i
      letter_real t q = q ∙ sym (letter-is ∙ rw (ne_eqb x.end (i + a) h, eq-eqb x.end (length l) z, ← ec, t))

      pub letter_short : c ≡ false → None ≡ behind_letter l neg m double i
      letter_short t = sym (letter-is ∙ rw (ne_eqb x.end (i + a) h, eq-eqb x.end (length l) z, ← ec, t))

module _ (l : List ℕ) (neg : Bool) (m i : ℕ) {r : Option Value} where
  pub point-end : i ≡ length l → r ≡ as_real neg m false 0 false → r ≡ behind_point l neg m i
  unfolding behind_point
  point-end h q = q ∙ sym (rw (eq-eqb i (length l) h))

  pub point-letter : {b : Bool} → (i ≡ length l → ⊥) → b ≡ (eqb (get_or l i 0) 69 || eqb (get_or l i 0) 68) → b ≡ true → r ≡ behind_letter l neg m (eqb (get_or l i 0) 68) (i + 1) → r ≡ behind_point l neg m i
  unfolding behind_point
  point-letter h e t q = q ∙ sym (rw (ne_eqb i (length l) h, ← e, t))

module _ (l : List ℕ) (neg : Bool) (m i : ℕ) where
  pub point-other : {b : Bool} → (i ≡ length l → ⊥) → b ≡ (eqb (get_or l i 0) 69 || eqb (get_or l i 0) 68) → b ≡ false → None ≡ behind_point l neg m i
  unfolding behind_point
  point-other h e t = sym (rw (ne_eqb i (length l) h, ← e, t))

  pub count-minus : neg ≡ true → None ≡ behind_count l neg m i
  unfolding behind_count
  count-minus h = simp h

  pub count-nought : neg ≡ false → m < 1 → None ≡ behind_count l neg m i
  unfolding behind_count
  count-nought h a = simp (h, lt-leb 1 m a)

  pub count-many : neg ≡ false → 1 ≤ m → 999 < m → None ≡ behind_count l neg m i
  unfolding behind_count
  count-many h a b = simp (h, le-leb 1 m a, lt-leb m 999 b)

  pub count-length : neg ≡ false → 1 ≤ m → m ≤ 999 → (i + m ≡ length l → ⊥) → None ≡ behind_count l neg m i
  unfolding behind_count
  count-length h a b n = simp (h, le-leb 1 m a, le-leb m 999 b, ne_eqb (i + m) (length l) n)

  module _ {c : Bool} (h : neg ≡ false) (a : 1 ≤ m) (b : m ≤ 999) (z : i + m ≡ length l) (p : c ≡ printable (columns l i (length l))) where
    count-is : behind_count l neg m i ≡ cond c (Some (Text i m)) None
    unfolding behind_count
    count-is = simp (h, le-leb 1 m a, le-leb m 999 b, eq-eqb (i + m) (length l) z, p, columns_rest l i)

    pub count_yes : c ≡ true → Some (Text i m) ≡ behind_count l neg m i
    count_yes t = sym (count-is ∙ rw t)

    pub count_no : c ≡ false → None ≡ behind_count l neg m i
    count_no t = sym (count-is ∙ rw t)

pub ruleset behinds = (letter_in, letter-none, letter-more, letter_real, letter_short, point-end, point-letter, point-other, count-minus, count-nought, count-many, count-length, count_yes, count_no)

-- ---- put together

pub strict_none : (l : List ℕ) → length l ≡ 0 → Some Default ≡ strict_of l
unfolding direct_of
strict_none l h = sym (rw h) ∙ direct l

module _ (l : List ℕ) (s : length l ≡ 0 → ⊥) {a : ℕ} {x : Decimal} (ea : a ≡ length (minus (eqb (get_or l 0 0) 45))) (ex : x ≡ decimal (drop a l) a) where
  abbrev neg : Bool
  neg = eqb (get_or l 0 0) 45

  direct_is : direct_of l ≡ cond (eqb x.end a) None (behind_digits l neg x.value x.end)
  unfolding direct_of
  direct_is = rw (ex, ea, ne_eqb (length l) 0 s)

  pub strict_bad : x.end ≡ a → None ≡ strict_of l
  strict_bad h = sym (direct_is ∙ rw (eq-eqb x.end a h)) ∙ direct l

  module _ (n : x.end ≡ a → ⊥) {r : Option Value} where
    all : r ≡ behind_digits l neg x.value x.end → r ≡ strict_of l
    all q = q ∙ sym (direct_is ∙ rw (ne_eqb x.end a n)) ∙ direct l

    pub strict_whole : x.end ≡ length l → r ≡ as_whole neg x.value → r ≡ strict_of l
    unfolding behind_digits
    strict_whole h q = all (q ∙ sym (rw (eq-eqb x.end (length l) h)))

    pub strict_point : (x.end ≡ length l → ⊥) → get_or l x.end 0 ≡ 46 → r ≡ behind_point l neg x.value (x.end + 1) → r ≡ strict_of l
    unfolding behind_digits
    strict_point h c q = all (q ∙ sym (rw (ne_eqb x.end (length l) h, c)))

    pub strict_count : (x.end ≡ length l → ⊥) → (get_or l x.end 0 ≡ 46 → ⊥) → get_or l x.end 0 ≡ 72 → r ≡ behind_count l neg x.value (x.end + 1) → r ≡ strict_of l
    unfolding behind_digits
    strict_count h d c q = all (q ∙ sym (rw (ne_eqb x.end (length l) h, c)))

  pub strict_other : (x.end ≡ a → ⊥) → (x.end ≡ length l → ⊥) → (get_or l x.end 0 ≡ 46 → ⊥) → (get_or l x.end 0 ≡ 72 → ⊥) → None ≡ strict_of l
  unfolding behind_digits
  strict_other n h d c = all n (sym (rw (ne_eqb x.end (length l) h, ne_eqb (get_or l x.end 0) 46 d, ne_eqb (get_or l x.end 0) 72 c)))

placed-spelt : (l : List ℕ) (m : ℕ) (v : Value) → Inside m v → Placed m (spelt l v)
placed-spelt l m v h = pick (same_bytes _ l)
  where
    pick : (b : Bool) → Placed m (cond b (Some v) None)
    pick true = h
    pick false = tt

-- a number has no place
pub placed-numeral : (l : List ℕ) (m : ℕ) (x : Number) {r : Option Value} → r ≡ numeral l x → Placed m r
placed-numeral l m x e = rw e (pick x)
  where
    pick : (x : Number) → Placed m (numeral l x)
    pick (WholeOf neg size) = placed-spelt l m (Whole neg size) tt
    pick (RealOf neg k eneg e double) = placed-spelt l m (Real neg k eneg e double) tt
    pick Beyond = tt
    pick Bad = tt

-- a string stands in the text that it was read back from
pub strict_inside : (l : List ℕ) → Placed (length l) (strict_of l)
unfolding strict_of
strict_inside [] = tt
strict_inside (b ∷ bs) = by-head (head_of (b ∷ bs))
  where
    l : List ℕ
    l = b ∷ bs

    by-string : (count len : ℕ) (a c : Bool) → eqb (len + count) (length l) ≡ a → Placed (length l) (cond (a && c) (Some (Text len count)) None)
    by-string count len true true e = let k : len + count ≡ length l = eqb-true (len + count) (length l) e in omega arith
    by-string count len true false e = tt
    by-string count len false c e = tt

    by-head : (h : Head) → Placed (length l) (by_head l h)
    by-head (Count count len) = by-string count len (eqb (len + count) (length l)) (eqb len (length (head count)) && printable (drop len l)) refl
    by-head (Plain k) = placed-numeral l (length l) k.number refl

pub strict_placed : (l : List ℕ) {r : Option Value} → r ≡ strict_of l → Placed (length l) r
strict_placed l e = rw e (strict_inside l)

pub ruleset backs = (strict_none, strict_bad, strict_whole, strict_point, strict_count, strict_other, strict_placed)
