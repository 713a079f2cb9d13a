-- Decimal digits: the two equations of `dec`, its induction, how many digits and which bytes they are.
use mathlib.Core.Path.{◌≡◌, refl, sym, ap, ◌∙◌}
use Prim.Native.Nat.{ℕ, zero, suc, ◌+◌, ◌-◌, ◌/◌, ◌%◌, ◌^◌, ◌≤◌, ◌<◌}
use native.Mathlib.Nat.{div-one, div-div-eq-div-mul, pow-succ'}
use native.Mathlib.Omega.{arith}
use native.Mathlib.Decide.{dec_lt}
use mathlib.Core.Bool.{Bool, true, false}
use mathlib.Core.List.{List, [], ◌∷◌, ◌++◌}
use lib.ListN.{length, get_or, set, replicate, length-append, length-replicate, get_or-append}
use borrow.Author.Tests.{lt-ltb, le-ltb}
use Rattle.columns.specs.declared.Signed.{Signed}
use Rattle.columns.specs.Decimal.{last_digits, dec, minus, signed_dec, to_right, to_left}
use Rattle.columns.specs.Columns.{printable}
use Rattle.columns.specs.Laid.{laid, laid_one, laid-laid, Wrote}
use Rattle.columns.proofs.Looks.{print_both, print_cons, print_replicate}
use Rattle.columns.proofs.Writes.{then, wrote_one, all_past, laid_last, laid_pair}

last_small : (f n : ℕ) → n < 10 → last_digits (suc f) n ≡ (48 + n) ∷ []
unfolding last_digits
last_small f n h = simp (last_digits, lt-ltb _ _ h)

last_big : (f n : ℕ) → 10 ≤ n → last_digits (suc f) n ≡ last_digits f (n / 10) ++ ((48 + n % 10) ∷ [])
unfolding last_digits
last_big f n h = simp (last_digits, le-ltb _ _ h)

-- more than enough is no more
last_enough : (f g n : ℕ) → n < f → n < g → last_digits f n ≡ last_digits g n
last_enough zero g n h k = absurd (omega arith)
last_enough (suc f) zero n h k = absurd (omega arith)
last_enough (suc f) (suc g) n h k = elim (dec_lt n 10) [
  | yes l ↦ last_small f n l ∙ sym (last_small g n l)
  | no l ↦ last_big f n (omega arith) ∙ ap (λ (x : List ℕ). x ++ ((48 + n % 10) ∷ [])) (last_enough f g (n / 10) (omega arith) (omega arith)) ∙ sym (last_big g n (omega arith))
]

-- one digit
pub dec_small : (n : ℕ) → n < 10 → dec n ≡ (48 + n) ∷ []
unfolding dec
dec_small n h = last_small n n h

-- the last digit stands behind the others
pub dec_big : (n : ℕ) → 10 ≤ n → dec n ≡ dec (n / 10) ++ ((48 + n % 10) ∷ [])
unfolding dec
dec_big n h = last_big n n h ∙ ap (λ (x : List ℕ). x ++ ((48 + n % 10) ∷ [])) (last_enough n (suc (n / 10)) (n / 10) (omega arith) (omega arith))

-- induction on the digits
pub by_digits_lem : (P : ℕ → Type 0) → ((n : ℕ) → n < 10 → P n) → ((n : ℕ) → 10 ≤ n → P (n / 10) → P n) → (n : ℕ) → P n
by_digits_lem P one more n = go (suc n) n (omega arith)
  where
    go : (f m : ℕ) → m < f → P m
    go zero m h = absurd (omega arith)
    go (suc f) m h = elim (dec_lt m 10) [ yes l ↦ one m l | no l ↦ more m (omega arith) (go f (m / 10) (omega arith)) ]

-- ---- how many digits

-- there is one at least
pub dec_some : (n : ℕ) → 1 ≤ length (dec n)
dec_some = by_digits_lem (λ (n : ℕ). 1 ≤ length (dec n)) (λ n h. rw (dec_small n h) (omega arith)) (λ n h p. rw (dec_big n h, length-append) (omega arith))

-- below 10 ^ k there are at most k digits, k being 1 or more
pub length_dec_le : (k n : ℕ) → n < 10 ^ suc k → length (dec n) ≤ suc k
length_dec_le zero n h = rw (dec_small n h) (omega arith)
length_dec_le (suc k) n h = elim (dec_lt n 10) [
  | yes l ↦ rw (dec_small n l) (omega arith)
  | no l ↦ rw (dec_big n (omega arith), length-append) (omega (arith, length_dec_le k (n / 10) (omega arith)))
]

pub length_dec_below : (k n : ℕ) → 1 ≤ k → n < 10 ^ k → length (dec n) ≤ k
length_dec_below zero n h l = absurd (omega arith)
length_dec_below (suc k) n h l = length_dec_le k n l

-- and a number of k digits at most is below 10 ^ k
pub dec-below : (k n : ℕ) → length (dec n) ≤ k → n < 10 ^ k
dec-below zero n h = absurd (omega (arith, dec_some n))
dec-below (suc k) n h = elim (dec_lt n 10) [
  | yes l ↦ few l
  | no l ↦ more (omega arith) (dec-below k (n / 10) (omega (arith, longer (omega arith))))
]
  where
    longer : 10 ≤ n → length (dec n) ≡ length (dec (n / 10)) + 1
    longer g = rw (dec_big n g, length-append)

    more : 10 ≤ n → n / 10 < 10 ^ k → n < 10 ^ suc k
    more g p = omega arith

    few : n < 10 → n < 10 ^ suc k
    few l = omega (arith, ten k)
      where
        ten : (j : ℕ) → 1 ≤ 10 ^ j
        ten zero = omega arith
        ten (suc j) = omega (arith, ten j)

-- ---- which bytes

-- every one is a digit
pub data Digits : List ℕ → Type 0 where
  none : Digits []
  one : {b : ℕ} {bs : List ℕ} → 48 ≤ b → b ≤ 57 → Digits bs → Digits (b ∷ bs)

pub digits_append : {s t : List ℕ} → Digits s → Digits t → Digits (s ++ t)
digits_append none q = q
digits_append (one lo hi p) q = one lo hi (digits_append p q)

pub dec-digits : (n : ℕ) → Digits (dec n)
dec-digits = by_digits_lem (λ (n : ℕ). Digits (dec n))
    (λ n h. rw (dec_small n h) (one {b = 48 + n} (omega arith) (omega arith) none))
    (λ n h p. rw (dec_big n h) (digits_append p (one {b = 48 + n % 10} (omega arith) (omega arith) none)))

-- at each place
pub digits-byte : {s : List ℕ} (i : ℕ) → Digits s → i < length s → (48 ≤ get_or s i 0) × (get_or s i 0 ≤ 57)
digits-byte i none h = absurd (omega arith)
digits-byte zero (one lo hi p) h = (lo, hi)
digits-byte (suc i) (one lo hi p) h = digits-byte i p (omega arith)

pub dec-byte : (n i : ℕ) → i < length (dec n) → (48 ≤ get_or (dec n) i 0) × (get_or (dec n) i 0 ≤ 57)
dec-byte n i h = digits-byte i (dec-digits n) h

pub print_digits : {s : List ℕ} → Digits s → printable s ≡ true
unfolding printable
print_digits none = refl
print_digits (one {b} {bs} lo hi p) = print_cons b bs (omega arith) (omega arith) (print_digits p)

-- the first is not 0 but for 0 itself
pub dec_first : (n : ℕ) → 0 < n → 49 ≤ get_or (dec n) 0 0
dec_first = by_digits_lem (λ (n : ℕ). 0 < n → 49 ≤ get_or (dec n) 0 0)
    (λ n h z. rw (dec_small n h) (omega arith))
    (λ n h p z. rw (dec_big n h, get_or-append (dec (n / 10)) ((48 + n % 10) ∷ []) 0 0 (dec_some (n / 10))) (p (omega arith)))

pub dec-nought : dec 0 ≡ 48 ∷ []
dec-nought = dec_small 0 (omega arith)

-- a first digit, and the others
pub dec_cons : (n : ℕ) → (b : ℕ) × (bs : List ℕ) × (dec n ≡ b ∷ bs) × (48 ≤ b) × (b ≤ 57)
dec_cons n = split (dec n) refl (dec-digits n) (dec_some n)
  where
    split : (s : List ℕ) → dec n ≡ s → Digits s → 1 ≤ length s → (b : ℕ) × (bs : List ℕ) × (dec n ≡ b ∷ bs) × (48 ≤ b) × (b ≤ 57)
    split [] e p h = absurd (omega arith)
    split (b ∷ bs) e (one lo hi p) h = (b, bs, e, lo, hi)

-- ---- with a sign, and in columns

pub length-signed : (x : Signed) → length (signed_dec x) ≡ length (minus x.neg) + length (dec x.size)
unfolding signed_dec
length-signed x = length-append (minus x.neg) (dec x.size)

pub length-minus : (neg : Bool) → length (minus neg) ≤ 1
length-minus true = omega arith
length-minus false = omega arith

pub length_right : (b width : ℕ) (t : List ℕ) → length t ≤ width → length (to_right b width t) ≡ width
unfolding to_right
length_right b width t h = simp (length-append, length-replicate) (omega arith)

pub length_left : (width : ℕ) (t : List ℕ) → length t ≤ width → length (to_left width t) ≡ width
unfolding to_left
length_left width t h = simp (length-append, length-replicate) (omega arith)

-- a number is spelled in bytes that a line may hold, and so is its sign
pub print_dec : (n : ℕ) → printable (dec n) ≡ true
print_dec n = print_digits (dec-digits n)

pub print_minus : (neg : Bool) → printable (minus neg) ≡ true
unfolding printable
print_minus true = refl
print_minus false = refl

pub print_signed : (x : Signed) → printable (signed_dec x) ≡ true
unfolding signed_dec
print_signed x = print_both (minus x.neg) (dec x.size) (print_minus x.neg) (print_dec x.size)

pub print_right : (b width : ℕ) (t : List ℕ) → 32 ≤ b → b ≤ 126 → printable t ≡ true → printable (to_right b width t) ≡ true
unfolding to_right
print_right b width t lo hi e = print_both (replicate (width - length t) b) t (print_replicate (width - length t) b lo hi) e

pub print_left : (width : ℕ) (t : List ℕ) → printable t ≡ true → printable (to_left width t) ≡ true
unfolding to_left
print_left width t e = print_both t (replicate (width - length t) 32) e (print_replicate (width - length t) 32 (omega arith) (omega arith))

-- ---- how many, as the code counts them

pub count-is : (k n : ℕ) → 10 ^ k ≤ n → n < 10 ^ suc k → suc k ≡ length (dec n)
count-is k n lo hi = elim (dec_lt k (length (dec n))) [
  | yes l ↦ omega (arith, length_dec_le k n hi)
  | no l ↦ absurd (omega (arith, dec-below k n (omega arith)))
]

pub count_1 : (n : ℕ) → n < 10 → 1 ≡ length (dec n)
count_1 n h = rw (dec_small n h)

pub count_2 : (n : ℕ) → 10 ≤ n → n < 100 → 2 ≡ length (dec n)
count_2 n lo hi = count-is 1 n lo hi

pub count_3 : (n : ℕ) → 100 ≤ n → n < 1000 → 3 ≡ length (dec n)
count_3 n lo hi = count-is 2 n lo hi

pub count_4 : (n : ℕ) → 1000 ≤ n → n < 10000 → 4 ≡ length (dec n)
count_4 n lo hi = count-is 3 n lo hi

pub count_5 : (n : ℕ) → 10000 ≤ n → n < 100000 → 5 ≡ length (dec n)
count_5 n lo hi = count-is 4 n lo hi

pub count_6 : (n : ℕ) → 100000 ≤ n → n < 1000000 → 6 ≡ length (dec n)
count_6 n lo hi = count-is 5 n lo hi

pub count_7 : (n : ℕ) → 1000000 ≤ n → n < 10000000 → 7 ≡ length (dec n)
count_7 n lo hi = count-is 6 n lo hi

pub count_8 : (n : ℕ) → 10000000 ≤ n → n < 100000000 → 8 ≡ length (dec n)
count_8 n lo hi = count-is 7 n lo hi

-- without its last k digits it has k fewer
pub without : (k n : ℕ) → 10 ^ k ≤ n → length (dec (n / 10 ^ k)) + k ≡ length (dec n)
without zero n h = rw div-one (omega arith)
without (suc k) n h =
    let e : n / 10 / 10 ^ k ≡ n / 10 ^ suc k = div-div-eq-div-mul n 10 (10 ^ k) ∙ ap (λ (x : ℕ). n / x) (sym (pow-succ' 10 k)) in
    let l : length (dec n) ≡ length (dec (n / 10)) + 1 = rw (dec_big n (omega (arith, some k)), length-append) in
    rw (← e) (omega (arith, without k (n / 10) (omega arith)))
  where
    some : (j : ℕ) → 1 ≤ 10 ^ j
    some zero = omega arith
    some (suc j) = omega (arith, some j)

pub count_eight : (n r : ℕ) → r ≡ length (dec (n / 100000000)) → 100000000 ≤ n → r + 8 ≡ length (dec n)
count_eight n r e h = rw e (without 8 n h)

pub count_sixteen : (n r : ℕ) → r ≡ length (dec (n / 100000000 / 100000000)) → 100000000 ≤ n → 100000000 ≤ n / 100000000 → r + 16 ≡ length (dec n)
count_sixteen n r e h k = omega (arith, without 8 n h, without 8 (n / 100000000) k)

-- a number of 64 bits has 20 digits at most
pub count_high_lem : (n r : ℕ) → r ≡ length (dec (n / 100000000 / 100000000)) → 100000000 ≤ n → 100000000 ≤ n / 100000000 → n < 2 ^ 64 → r + 16 ≤ 20
count_high_lem n r e h k l = omega (arith, count_sixteen n r e h k, length_dec_le 19 n (omega arith))

pub ruleset counts = (count_1, count_2, count_3, count_4, count_5, count_6, count_7, count_8, count_eight, count_sixteen, count_high_lem)

-- ---- what the functions that write decimals are asked: f is what is to be left

-- the digits of x stand from at up to i, before m
module _ (x i at : ℕ) (place : i ≡ at + length (dec x)) where
  pub last_place : 10 ≤ x → i - 1 ≡ at + length (dec (x / 10))
  last_place h = omega (arith, without 1 x h)

  pub last_some : 10 ≤ x → 1 ≤ i
  last_some h = omega (arith, dec_some x)

  pub pair_place : 100 ≤ x → i - 2 ≡ at + length (dec (x / 100))
  pair_place h = omega (arith, without 2 x h)

  pub pair_some : 100 ≤ x → 2 ≤ i
  pair_some h = omega (arith, without 2 x h)

  pub first_fits : (m : ℕ) → i ≤ m → m < 2 ^ 64 → at + 1 < 2 ^ 64
  first_fits m k l = omega (arith, dec_some x)

  module _ (m : ℕ) (k : i ≤ m) where
    pub pair_low : 100 ≤ x → i - 2 < m
    pair_low h = omega (arith, without 2 x h)

    pub pair_high : 100 ≤ x → i - 2 + 1 < m
    pair_high h = omega (arith, without 2 x h)

    pub first_low : at < m
    first_low = omega (arith, dec_some x)

    pub first_high : 10 ≤ x → at + 1 < m
    first_high h = omega (arith, without 1 x h, dec_some (x / 10))

-- the last two digits
pub dec_pair : (x : ℕ) → 100 ≤ x → dec x ≡ (dec (x / 100) ++ ((48 + x % 100 / 10) ∷ [])) ++ ((48 + x % 100 % 10) ∷ [])
dec_pair x h =
    let a : x / 10 / 10 ≡ x / 100 = omega arith in
    let b : x / 10 % 10 ≡ x % 100 / 10 = omega arith in
    let c : x % 10 ≡ x % 100 % 10 = omega arith in
    rw (dec_big x (omega arith), dec_big (x / 10) (omega arith), a, b, c)

module _ (f o : List ℕ) (at x i : ℕ) (inv : laid o at (dec x) ≡ f) (place : i ≡ at + length (dec x)) where
  pub last_laid : {o' : List ℕ} {d r : ℕ} → Wrote o (i - 1) (d ∷ []) o' r → d ≡ 48 + x % 10 → 10 ≤ x → laid o' at (dec (x / 10)) ≡ f
  last_laid {o'} {d} p e h =
      rw (p.bytes, laid_one o (i - 1) d, last_place x i at place h, e) (laid_last o at (dec (x / 10)) (48 + x % 10) ∙ (rw (dec_big x h) at inv))

  pub pair_laid : (d e : ℕ) → d ≡ 48 + x % 100 / 10 → e ≡ 48 + x % 100 % 10 → 100 ≤ x → laid (set (set o (i - 2) d) (i - 2 + 1) e) at (dec (x / 100)) ≡ f
  pair_laid d e p q h =
      rw (pair_place x i at place h, p, q)
      (laid_pair o at (dec (x / 100)) (48 + x % 100 / 10) (48 + x % 100 % 10) ∙ (rw (dec_pair x h) at inv))

module _ (o o' : List ℕ) (at n x end : ℕ) (inv : laid o' at (dec x) ≡ laid o at (dec n)) (place : end ≡ at + length (dec n)) where
  pub first_put : {o'' : List ℕ} {d r : ℕ} → Wrote o' at (d ∷ []) o'' r → d ≡ 48 + x → x < 10 → Wrote o at (dec n) o'' end
  first_put p e h = record { bytes = p.bytes ∙ rw e (rw (dec_small x h) at inv); next = place }

  pub first_laid : (d : ℕ) → d ≡ 48 + x → x < 10 → Wrote o at (dec n) (set o' at d) end
  first_laid d e h = first_put (wrote_one o' at d (at + 1) refl) e h

  pub first_two : (d e : ℕ) → d ≡ 48 + x / 10 → e ≡ 48 + x % 10 → 10 ≤ x → x < 100 → Wrote o at (dec n) (set (set o' at d) (at + 1) e) end
  first_two d e p q h k = record {
    bytes = rw (p, q) (two (48 + x / 10) (48 + x % 10) ∙ ap (laid o' at) (sym (dec_big x h ∙ rw (dec_small (x / 10) (omega arith)))) ∙ inv);
    next = place;
  }
    where
      two : (a b : ℕ) → set (set o' at a) (at + 1) b ≡ laid o' at ((a ∷ []) ++ (b ∷ []))
      two a b = rw (← laid-laid o' at (a ∷ []) (b ∷ []), laid_one o' at a, laid_one (set o' at a) (at + 1) b)

pub dec-past : (o : List ℕ) (at n count : ℕ) → length o ≤ at → count ≡ length (dec n) → Wrote o at (dec n) o (at + count)
dec-past o at n count h e = rw e (all_past o at (dec n) h)

pub ruleset decimals = (last_place, last_some, pair_place, pair_some, first_fits, pair_low, pair_high, first_low, first_high, last_laid, pair_laid, first_put, first_laid, first_two, dec-past, dec_some)

-- ---- what the functions that write signs and columns are asked

pub wrote_minus : {o o' o'' : List ℕ} {at r r' : ℕ} (x : Signed) → Wrote o at (45 ∷ []) o' r → Wrote o' r (dec x.size) o'' r' → x.neg ≡ true → Wrote o at (signed_dec x) o'' r'
unfolding signed_dec
wrote_minus x p q e = rw e (then p q)

pub wrote_plain : {o o' : List ℕ} {at r : ℕ} (x : Signed) → Wrote o at (dec x.size) o' r → x.neg ≡ false → Wrote o at (signed_dec x) o' r
unfolding signed_dec
wrote_plain x p e = rw e p

pub count-minus : (x : Signed) (d : ℕ) → d ≡ length (dec x.size) → x.neg ≡ true → d + 1 ≡ length (signed_dec x)
unfolding signed_dec
count-minus x d e h = rw (h, e) (omega arith)

pub count-plain : (x : Signed) (d : ℕ) → d ≡ length (dec x.size) → x.neg ≡ false → d ≡ length (signed_dec x)
unfolding signed_dec
count-plain x d e h = rw h e

-- a number of 32 bits has 10 digits at most
length_short : (n : ℕ) → n < 2 ^ 32 → length (dec n) ≤ 10
length_short n k = length_dec_le 9 n (omega arith)

pub minus_high : {o o' o'' : List ℕ} {at r r' b : ℕ} (n : ℕ) → Wrote o at (b ∷ []) o' r → Wrote o' r (dec n) o'' r' → n < 2 ^ 32 → r' ≤ at + 11
minus_high n p q k = omega (arith, p.next, q.next, length_short n k)

pub plain_high : {o o' : List ℕ} {at r : ℕ} (n : ℕ) → Wrote o at (dec n) o' r → n < 2 ^ 32 → r ≤ at + 11
plain_high n p k = omega (arith, p.next, length_short n k)

pub count_minus_high : (n d : ℕ) → d ≡ length (dec n) → n < 2 ^ 32 → d + 1 ≤ 11
count_minus_high n d e k = omega (arith, length_short n k)

pub count_plain_high : (n d : ℕ) → d ≡ length (dec n) → n < 2 ^ 32 → d ≤ 11
count_plain_high n d e k = omega (arith, length_short n k)

pub wrote_right : {o o' o'' : List ℕ} {at r r' k : ℕ} (b d width : ℕ) (t : List ℕ) → d ≡ length t → k ≡ width - d → Wrote o at (replicate k b) o' r → Wrote o' r t o'' r' → Wrote o at (to_right b width t) o'' r'
unfolding to_right
wrote_right b d width t e f p q = rw (← e, ← f) (then p q)

-- without a sign it is the number alone
pub right_plain : {o o' : List ℕ} {at r : ℕ} (width : ℕ) (x : Signed) → Wrote o at (to_right 32 width (dec x.size)) o' r → x.neg ≡ false → Wrote o at (to_right 32 width (signed_dec x)) o' r
unfolding signed_dec
right_plain width x p e = rw e p

pub right_high : {o o' : List ℕ} {at r : ℕ} (width n : ℕ) → Wrote o at (to_right 32 width (dec n)) o' r → n < 2 ^ 32 → r ≤ at + width + 11
unfolding to_right
right_high {at = at} width n p k =
    let e = rw (length-append, length-replicate) at p.next in
    omega (arith, e, length_short n k)

pub wrote_left : {o o' o'' : List ℕ} {at r r' k : ℕ} (width : ℕ) (t : List ℕ) → k ≡ width - length t → Wrote o at t o' r → Wrote o' r (replicate k 32) o'' r' → Wrote o at (to_left width t) o'' r'
unfolding to_left
wrote_left width t f p q = rw (← f) (then p q)

pub ruleset columned = (right_plain, right_high, wrote_minus, wrote_plain, count-minus, count-plain, minus_high, plain_high, count_minus_high, count_plain_high, wrote_right, wrote_left)
