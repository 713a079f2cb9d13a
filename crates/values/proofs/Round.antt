-- A spelling, with anything behind it that cannot go on with it, is read as the value that it spells, and to its end. Assumes nothing.
use mathlib.Core.Path.{◌≡◌, refl, sym, ap, ◌∙◌}
use mathlib.Core.Bool.{Bool, true, false, cond, ◌||◌}
use mathlib.Core.List.{List, [], ◌∷◌, ◌++◌, append_assoc, append-nil}
use Prim.Native.Nat.{ℕ, zero, suc, ◌+◌, ◌%◌, ◌≤◌}
use native.Mathlib.Nat.{zero-add, zero-div, div-one}
use native.Mathlib.Omega.{arith}
use lib.ListN.{length, get_or, drop, length-append}
use lib.Seq.{drop-append_seam}
use lib.Dec.{ltb, eqb}
use borrow.Author.Tests.{ltb-false, eqb-true, eqb-false, ne_eqb, lt-ltb, le-ltb, le-leb}
use Rattle.columns.specs.Decimal.{dec, minus}
use Rattle.columns.proofs.Decimals.{dec_some, length_dec_le}
use Rattle.values.specs.declared.Number.{Number}
use Rattle.values.specs.declared.Number.TheVariants.{Whole, Real}
use Rattle.values.specs.declared.Power.TheVariants.{None, Of}
use Rattle.values.specs.declared.Head.TheVariants.{Count, Plain}
use Rattle.values.specs.Number.{is_digit, joins, digits, value, tens, token, point_len, power, power_at, normal, real_of, finish, number_of}
use Rattle.values.specs.Head.{head_of}
use Rattle.values.specs.Value.{Item, whole, real, text, letter, ten_to, head, spelled, Normal, nought, times, over, Fine, fine_whole, fine_real}
use Rattle.values.proofs.Laws.{number-of, power-none}
use Rattle.values.proofs.Steps.{real_near}
use Rattle.values.proofs.Digits.{Ds, none, digits_append, ds_first, dec_ds, dec-value, Stops, stops, next, here, signed}
use Rattle.values.proofs.Canon.{Numeral, is_whole, is_real}
use Rattle.values.proofs.Sizes.{sizes}

-- ---- the exponent

module _ (t : List ℕ) where
  power-digits : (i : ℕ) (eneg double : Bool) (ds q : List ℕ) → drop i t ≡ minus eneg ++ (ds ++ q) → Ds ds → 1 ≤ length ds → length ds ≤ 3 → is_digit (get_or q 0 0) ≡ false
      → power t i double ≡ cond eneg (Of 0 (value 0 ds) double (i + length (minus eneg) + length ds)) (Of (value 0 ds) 0 double (i + length (minus eneg) + length ds))
  unfolding power
  power-digits i eneg double ds q e d l h z =
      let s = signed t i eneg (ds ++ q) e (ds_first d l q) in
      let g : digits (drop (i + length (minus eneg)) t) ≡ ds = ap digits (next t i (minus eneg) (ds ++ q) e) ∙ digits_append d q z in
      rw (s.1, s.0, g) (simp (le-leb 1 (length ds) l, le-leb (length ds) 3 h))

  power-spelled : (i : ℕ) (eneg double : Bool) (ds q : List ℕ) → drop i t ≡ letter double ∷ (minus eneg ++ (ds ++ q)) → Ds ds → 1 ≤ length ds → length ds ≤ 3 → is_digit (get_or q 0 0) ≡ false
      → power_at t i ≡ cond eneg (Of 0 (value 0 ds) double (i + 1 + length (minus eneg) + length ds)) (Of (value 0 ds) 0 double (i + 1 + length (minus eneg) + length ds))
  unfolding power_at
  power-spelled i eneg true ds q e d l h z =
      rw (here t i (68 ∷ (minus eneg ++ (ds ++ q))) e) (power-digits (i + 1) eneg true ds q (next t i (68 ∷ []) (minus eneg ++ (ds ++ q)) e) d l h z)
  power-spelled i eneg false ds q e d l h z =
      rw (here t i (69 ∷ (minus eneg ++ (ds ++ q))) e) (power-digits (i + 1) eneg false ds q (next t i (69 ∷ []) (minus eneg ++ (ds ++ q)) e) d l h z)

-- ---- the value

tens-none : (k m : ℕ) → (m % 10 ≡ 0 → ⊥) → tens k m ≡ 0
tens-none zero m n = refl
tens-none (suc k) m n = simp (ne_eqb (m % 10) 0 n)

real_normal : (neg : Bool) (m count up down : ℕ) (double : Bool) (end : ℕ) → (m % 10 ≡ 0 → ⊥) → real_of neg m count up (0 + down) double end ≡ normal neg m up down double end
real_normal neg m count up down double end n = rw (tens-none count m n, div-one m, zero-add up, zero-add down)

some : (m : ℕ) → (m % 10 ≡ 0 → ⊥) → m ≡ 0 → ⊥
some m n e = n (rw e)

finish-normal : {neg : Bool} {m : ℕ} {eneg : Bool} {e : ℕ} → Normal neg m eneg e → (count p end : ℕ) (double : Bool) (last : ℕ) → 1 ≤ count
    → finish (cond eneg (Of 0 e double last) (Of e 0 double last)) neg m count 0 p end ≡ token (Real neg m eneg e double) last
finish-normal nought count p end double last l = simp (ne_eqb count 0 (omega arith), zero-div)
finish-normal (times neg m e n h k) count p end double last l =
    simp (ne_eqb count 0 (omega arith)) (real_normal neg m count e 0 double last n ∙ sym (real_near neg m e 0 double last (some m n) h e (omega arith) false (sym (le-ltb e 0 (omega arith))) k))
finish-normal (over neg m e n h o k) count p end double last l =
    simp (ne_eqb count 0 (omega arith)) (real_normal neg m count 0 e double last n ∙ sym (real_near neg m 0 e double last (some m n) h e (omega arith) true (sym (lt-ltb 0 e o)) k))

finish_short : {neg : Bool} {m : ℕ} {eneg : Bool} {e : ℕ} → Normal neg m eneg e → e ≡ 0 → (count end : ℕ) → 1 ≤ count
    → finish None neg m count 0 1 end ≡ token (Real neg m eneg e false) end
finish_short nought z count end l = simp (ne_eqb count 0 (omega arith), zero-div)
finish_short (times neg m e n h k) z count end l =
    rw z (simp (ne_eqb count 0 (omega arith)) (real_normal neg m count 0 0 false end n ∙ sym (real_near neg m 0 0 false end (some m n) h 0 refl false refl (omega arith))))
finish_short (over neg m e n h o k) z count end l = absurd (omega arith)

-- ---- a number with an exponent

letter_stops : (double : Bool) → is_digit (letter double) ≡ false
letter_stops true = refl
letter_stops false = refl

module _ (neg eneg double : Bool) (ms xs q : List ℕ) (md : Ds ms) (ml : 1 ≤ length ms) (xd : Ds xs) (xl : 1 ≤ length xs) (xh : length xs ≤ 3) (z : is_digit (get_or q 0 0) ≡ false)
    (ok : Normal neg (value 0 ms) eneg (value 0 xs)) where
  powered : (t : List ℕ) → t ≡ minus neg ++ (ms ++ (46 ∷ (letter double ∷ (minus eneg ++ (xs ++ q)))))
      → number_of t ≡ token (Real neg (value 0 ms) eneg (value 0 xs) double) (length (minus neg) + length ms + 1 + 1 + length (minus eneg) + length xs)
  powered t e0 =
      let a = length (minus neg) in
      let tail = letter double ∷ (minus eneg ++ (xs ++ q)) in
      let s0 = signed t 0 neg (ms ++ (46 ∷ tail)) e0 (ds_first md ml (46 ∷ tail)) in
      let n1 : drop a t ≡ ms ++ (46 ∷ tail) = rw zero-add at (next t 0 (minus neg) (ms ++ (46 ∷ tail)) e0) in
      let b1 : digits (drop a t) ≡ ms = ap digits n1 ∙ digits_append md (46 ∷ tail) refl in
      let n2 : drop (a + length ms) t ≡ 46 ∷ tail = next t a ms (46 ∷ tail) n1 in
      let p2 : get_or t (a + length ms) 0 ≡ 46 = here t (a + length ms) (46 ∷ tail) n2 in
      let n3 : drop (a + length ms + 1) t ≡ tail = next t (a + length ms) (46 ∷ []) tail n2 in
      let b3 : digits (drop (a + length ms + 1) t) ≡ [] = ap digits n3 ∙ digits_append none tail (letter_stops double) in
      sym (number-of t (get_or t 0 0) a (length ms) 1 (value 0 ms) (length ms) 0 refl (sym s0.1) (rw b1) (rw p2) (rw (b1, b3, append-nil)) (rw (b1, b3) (omega arith)) (rw b3))
      ∙ rw (s0.0, power-spelled t (a + length ms + 1) eneg double xs q n3 xd xl xh z) (finish-normal ok (length ms) 1 (a + length ms + 1) double _ ml)

-- ---- a number without one

abbrev dot : Bool → List ℕ
dot b = cond b (46 ∷ []) []

module _ (neg b : Bool) (ms q : List ℕ) (md : Ds ms) (ml : 1 ≤ length ms) (s : Stops (get_or q 0 0)) where
  abbrev tail : List ℕ
  tail = dot b ++ q

  tail_stops : is_digit (get_or tail 0 0) ≡ false
  tail_stops = pick b
    where
      pick : (b : Bool) → is_digit (get_or (dot b ++ q) 0 0) ≡ false
      pick true = refl
      pick false = s.digit

  point : point_len (get_or tail 0 0) ≡ length (dot b)
  point = pick b
    where
      pick : (b : Bool) → point_len (get_or (dot b ++ q) 0 0) ≡ length (dot b)
      pick true = refl
      pick false = rw s.point

  unpowered : (t : List ℕ) → t ≡ minus neg ++ (ms ++ tail)
      → number_of t ≡ finish None neg (value 0 ms) (length ms) 0 (length (dot b)) (length (minus neg) + length ms + length (dot b))
  unpowered t e0 =
      let a = length (minus neg) in
      let i = a + length ms + length (dot b) in
      let s0 = signed t 0 neg (ms ++ tail) e0 (ds_first md ml tail) in
      let n1 : drop a t ≡ ms ++ tail = rw zero-add at (next t 0 (minus neg) (ms ++ tail) e0) in
      let b1 : digits (drop a t) ≡ ms = ap digits n1 ∙ digits_append md tail tail_stops in
      let n2 : drop (a + length ms) t ≡ tail = next t a ms tail n1 in
      let p2 : point_len (get_or t (a + length ms) 0) ≡ length (dot b) = ap point_len (here t (a + length ms) tail n2) ∙ point in
      let n3 : drop i t ≡ q = next t (a + length ms) (dot b) q n2 in
      let b3 : digits (drop i t) ≡ [] = ap digits n3 ∙ digits_append none q s.digit in
      let px : power_at t i ≡ None = sym (power-none t i (get_or q 0 0) (sym (here t i q n3)) (eqb-false _ 69 s.single) (eqb-false _ 68 s.double)) in
      sym (number-of t (get_or t 0 0) a (length ms) (length (dot b)) (value 0 ms) (length ms) 0 refl (sym s0.1) (rw b1) (sym p2) (rw (b1, b3, append-nil)) (rw (b1, b3) (omega arith)) (rw b3))
      ∙ rw (s0.0, px)

-- ---- heads

-- a number's first character is a digit or '-'
first_joins : (neg : Bool) {ms : List ℕ} → Ds ms → 1 ≤ length ms → (q : List ℕ) → joins (get_or (minus neg ++ (ms ++ q)) 0 0) ≡ true
first_joins true d l q = refl
first_joins false d l q = rw (ds_first d l q)

-- digits, and behind them neither a digit nor H: no string's head
plain-head : (neg : Bool) {ms : List ℕ} → Ds ms → (q : List ℕ) → is_digit (get_or q 0 0) ≡ false → eqb (get_or q 0 0) 72 ≡ false
    → head_of (minus neg ++ (ms ++ q)) ≡ Plain (number_of (minus neg ++ (ms ++ q)))
unfolding head_of
plain-head true d q z h = refl
plain-head false {ms} d q z h = rw (digits_append d q z, here (ms ++ q) (length ms) q (drop-append_seam ms q), h)

-- a string's head, whatever its characters are
pub round_head : (n : ℕ) → 1 ≤ n → n ≤ 999 → (q : List ℕ) → head_of (head n ++ q) ≡ Count n (length (head n))
unfolding head_of
round_head n l h q =
    let ds = dec n in
    let k : length ds + 1 ≡ length (ds ++ (72 ∷ [])) = sym (length-append ds (72 ∷ [])) in
    rw (append_assoc ds (72 ∷ []) q, digits_append (dec_ds n) (72 ∷ q) refl, here (ds ++ (72 ∷ q)) (length ds) (72 ∷ q) (drop-append_seam ds (72 ∷ q)), dec-value n, ← k)
    (simp (le-leb (length ds) 3 (length_dec_le 2 n (omega arith)), le-leb 1 n l))

pub round_text : (bs : List ℕ) → 1 ≤ length bs → length bs ≤ 999 → (q : List ℕ) → head_of (spelled (text bs) ++ q) ≡ Count (length bs) (length (head (length bs)))
unfolding spelled
round_text bs l h q = rw (append_assoc (head (length bs)) bs q) (round_head (length bs) l h (bs ++ q))

pub head-joins : (n : ℕ) (q : List ℕ) → joins (get_or (head n ++ q) 0 0) ≡ true
head-joins n q = rw (append_assoc (dec n) (72 ∷ []) q, ds_first (dec_ds n) (dec_some n) (72 ∷ q))

-- ---- numbers

-- x is the spelling of the number k: its first character is no delimiter, and with anything behind it that cannot go on with it, it is read as k
pub record Spells (x : List ℕ) (k : Number) : Type 0 where
  pub first : (q : List ℕ) → joins (get_or (x ++ q) 0 0) ≡ true
  pub number : (q : List ℕ) → joins (get_or q 0 0) ≡ false → number_of (x ++ q) ≡ token k (length x)
  pub head : (q : List ℕ) → joins (get_or q 0 0) ≡ false → head_of (x ++ q) ≡ Plain (token k (length x))

sign : (neg : Bool) (size : ℕ) → (size ≡ 0 → neg ≡ false) → cond (eqb size 0) false neg ≡ neg
sign neg size z = pick (eqb size 0) refl
  where
    pick : (b : Bool) → eqb size 0 ≡ b → cond b false neg ≡ neg
    pick true e = sym (z (eqb-true size 0 e))
    pick false e = refl

-- x is a sign, digits and y; y begins with neither a digit nor H, or is nothing
spells : (neg : Bool) (m : ℕ) (y : List ℕ) (k : Number)
    → ((q : List ℕ) → joins (get_or q 0 0) ≡ false → (is_digit (get_or (y ++ q) 0 0) ≡ false) × (eqb (get_or (y ++ q) 0 0) 72 ≡ false))
    → ((q : List ℕ) → joins (get_or q 0 0) ≡ false → number_of (minus neg ++ (dec m ++ (y ++ q))) ≡ token k (length (minus neg ++ (dec m ++ y))))
    → Spells (minus neg ++ (dec m ++ y)) k
spells neg m y k a n = record {
  first = λ q. rw (split q) (first_joins neg (dec_ds m) (dec_some m) (y ++ q));
  number = λ q z. rw (split q) (n q z);
  head = λ q z. rw (split q) (plain-head neg (dec_ds m) (y ++ q) (a q z).0 (a q z).1 ∙ ap Plain (n q z));
}
  where
    split : (q : List ℕ) → (minus neg ++ (dec m ++ y)) ++ q ≡ minus neg ++ (dec m ++ (y ++ q))
    split q = append_assoc (minus neg) (dec m ++ y) q ∙ ap (λ (l : List ℕ). minus neg ++ l) (append_assoc (dec m) y q)

round_whole : (neg : Bool) (size : ℕ) → size ≤ 2147483647 → (size ≡ 0 → neg ≡ false) → Spells (spelled (whole neg size)) (Whole neg size)
unfolding spelled
round_whole neg size h z = rw append-nil at (spells neg size [] (Whole neg size) (λ q j. ((stops (get_or q 0 0) j).digit, (stops (get_or q 0 0) j).count)) λ q j.
    let ds = dec size in
    let n : length (minus neg) + length ds + 0 ≡ length (minus neg ++ (ds ++ [])) = simp length-append (omega arith) in
    unpowered neg false ds q (dec_ds size) (dec_some size) (stops (get_or q 0 0) j) _ refl
    ∙ rw (dec-value size, n) (simp (ne_eqb (length ds) 0 (omega (arith, dec_some size)), le-leb size 2147483647 h, sign neg size z)))

module _ {neg : Bool} {m : ℕ} {eneg : Bool} {e : ℕ} (ok : Normal neg m eneg e) where
  round_long : (double : Bool) → Spells (minus neg ++ (dec m ++ (46 ∷ ten_to eneg e double))) (Real neg m eneg e double)
  round_long double = spells neg m (46 ∷ ten_to eneg e double) (Real neg m eneg e double) (λ q j. (refl, refl)) λ q j.
      let ms = dec m in
      let xs = dec e in
      let ok2 : Normal neg (value 0 ms) eneg (value 0 xs) = rw (dec-value m, dec-value e) ok in
      let n : length (minus neg) + length ms + 1 + 1 + length (minus eneg) + length xs ≡ length (minus neg ++ (ms ++ (46 ∷ ten_to eneg e double))) = simp length-append (omega arith) in
      rw (dec-value m, dec-value e, n) at
      (powered neg eneg double ms xs q (dec_ds m) (dec_some m) (dec_ds e) (dec_some e) (length_dec_le 2 e (omega (arith, (sizes ok).1))) (stops (get_or q 0 0) j).digit ok2 _
      (ap (λ (l : List ℕ). minus neg ++ (ms ++ (46 ∷ (letter double ∷ l)))) (append_assoc (minus eneg) xs q)))

  round_short : e ≡ 0 → Spells (minus neg ++ (dec m ++ (46 ∷ []))) (Real neg m eneg e false)
  round_short z = spells neg m (46 ∷ []) (Real neg m eneg e false) (λ q j. (refl, refl)) λ q j.
      let ms = dec m in
      let n : length (minus neg) + length ms + 1 ≡ length (minus neg ++ (ms ++ (46 ∷ []))) = simp length-append (omega arith) in
      unpowered neg true ms q (dec_ds m) (dec_some m) (stops (get_or q 0 0) j) _ refl ∙ rw (dec-value m, n) (finish_short ok z (length ms) _ (dec_some m))

round_real : {neg : Bool} {m : ℕ} {eneg : Bool} {e : ℕ} → Normal neg m eneg e → (double : Bool) → Spells (spelled (real neg m eneg e double)) (Real neg m eneg e double)
unfolding spelled
round_real {neg} {m} {eneg} {e} ok double = pick double (ltb 0 e) refl
  where
    pick : (double b : Bool) → ltb 0 e ≡ b → Spells (minus neg ++ (dec m ++ (46 ∷ cond (double || b) (ten_to eneg e double) []))) (Real neg m eneg e double)
    pick true b h = round_long ok true
    pick false true h = round_long ok false
    pick false false h = round_short ok (omega (arith, ltb-false 0 e h))

-- a fine number's spelling is read as that number
pub round : {v : Item} {k : Number} → Numeral v k → Fine v → Spells (spelled v) k
round is_whole (fine_whole neg size h z) = round_whole neg size h z
round is_real (fine_real ok double) = round_real ok double
