-- A spelling that is read straight from the text is read as the definition of strict reading says. Assumes nothing.
use mathlib.Core.Path.{◌≡◌, refl, sym, ap, ◌∙◌}
use mathlib.Core.Bool.{Bool, true, false, cond, not, ◌&&◌, ◌||◌, true≢false, false≢true}
use mathlib.Core.List.{List, [], ◌∷◌, ◌++◌, append_assoc, append-nil}
use Prim.Native.Nat.{ℕ, ◌+◌, ◌-◌, ◌%◌, ◌^◌, ◌≤◌, ◌<◌}
use native.Mathlib.Nat.{zero-add, add-zero}
use native.Mathlib.Omega.{arith}
use native.Mathlib.Numerals.{add-one}
use lib.ListN.{length, get_or, drop, length-append, length-drop, drop_of_length-le}
use lib.Seq.{drop-cons}
use lib.Dec.{ltb, leb, eqb}
use borrow.Author.Tests.{ltb-true, ltb-false, leb-true, eqb-true, eqb-false, eq-eqb, ne_eqb, lt-ltb, le-leb}
use Rattle.columns.specs.Columns.{printable}
use Rattle.columns.specs.Decimal.{dec, minus}
use Rattle.columns.proofs.Decimals.{dec_some}
use Rattle.columns.proofs.Tests.{both_left, both_right}
use Rattle.values.specs.declared.Decimal.{Decimal}
use Rattle.values.specs.declared.Value.{Value}
use Rattle.values.specs.declared.Value.TheVariants.{Whole, Real, Text}
use Rattle.std.specs.Prelude.{Option, Some, None}
use Rattle.values.specs.Number.{is_digit}
use Rattle.values.specs.Value.{Item, whole, real, text, letter, ten_to, exponent, head, spelled, item_of, Normal, nought, times, over, Fine, fine_default, fine_whole, fine_real, fine_text, Printed}
use Rattle.values.specs.Strict.{strict_of}
use Rattle.values.specs.Direct.{decimal, is_whole, is_nought, is_normal, as_whole, as_real, behind_letter, behind_point, behind_count, behind_digits, direct_of}
use Rattle.values.proofs.Ends.{inside}
use Rattle.values.proofs.Digits.{ds_first, dec_ds, next, here, signed}
use Rattle.values.proofs.Sizes.{sizes}
use Rattle.values.proofs.Decimals.{decimal-spelt, decimal-below, decimal-read}
use Rattle.values.proofs.OneSpelling.{placed, sound, complete}

-- ---- the limits

whole_limits : (neg : Bool) (size : ℕ) → is_whole neg size ≡ true → (size ≤ 2147483647) × (size ≡ 0 → neg ≡ false)
whole_limits true size e = (leb-true size 2147483647 (both_left (leb size 2147483647) _ e), λ z. absurd (omega (arith, ltb-true 0 size (both_right (leb size 2147483647) _ e))))
whole_limits false size e = (leb-true size 2147483647 (both_left (leb size 2147483647) _ e), λ z. refl)

limits_whole : (neg : Bool) (size : ℕ) → size ≤ 2147483647 → (size ≡ 0 → neg ≡ false) → is_whole neg size ≡ true
limits_whole true size h z = simp (le-leb size 2147483647 h) (some (ltb 0 size) refl)
  where
    some : (b : Bool) → ltb 0 size ≡ b → b ≡ true
    some true e = refl
    some false e = sym (z (omega (arith, ltb-false 0 size e)))
limits_whole false size h z = simp (le-leb size 2147483647 h)

nought_limits : (neg : Bool) (m : ℕ) (eneg : Bool) (e : ℕ) → is_nought neg m eneg e ≡ true → Normal neg m eneg e
nought_limits true m eneg e h = absurd (false≢true (both_right (eqb m 0) _ h))
nought_limits false m true e h = absurd (false≢true (both_right (eqb m 0) _ h))
nought_limits false m false e h =
    let a : m ≡ 0 = eqb-true m 0 (both_left (eqb m 0) _ h) in
    let b : e ≡ 0 = eqb-true e 0 (both_right (eqb m 0) _ h) in
    rw (a, b) nought

normal_limits : (neg : Bool) (m : ℕ) (eneg : Bool) (e : ℕ) → m < 10 ^ 17 → is_normal neg m eneg e ≡ true → Normal neg m eneg e
normal_limits neg m eneg e l h = pick (eqb (m % 10) 0) refl eneg refl (both_right (leb e 400) _ h)
  where
    k : e ≤ 400
    k = leb-true e 400 (both_left (leb e 400) _ h)

    pick : (a : Bool) → eqb (m % 10) 0 ≡ a → (b : Bool) → eneg ≡ b → cond a (is_nought neg m b e) (cond b (ltb 0 e) true) ≡ true → Normal neg m b e
    pick true z b q g = nought_limits neg m b e g
    pick false z true q g = over neg m e (eqb-false (m % 10) 0 z) l (ltb-true 0 e g) k
    pick false z false q g = times neg m e (eqb-false (m % 10) 0 z) l k

limits_normal : {neg : Bool} {m : ℕ} {eneg : Bool} {e : ℕ} → Normal neg m eneg e → is_normal neg m eneg e ≡ true
limits_normal nought = refl
limits_normal (times neg m e n l k) = simp (le-leb e 400 k, ne_eqb (m % 10) 0 n)
limits_normal (over neg m e n l o k) = simp (le-leb e 400 k, ne_eqb (m % 10) 0 n, lt-ltb 0 e o)

-- ---- what is read straight is read back

-- if it is read straight
abbrev If : List ℕ → Option Value → Type 0
If l (Some v) = strict_of l ≡ Some v
If l None = Unit {0}

spelled_whole : (neg : Bool) (size : ℕ) → minus neg ++ dec size ≡ spelled (whole neg size)
unfolding spelled
spelled_whole neg size = refl

spelled_real : (neg : Bool) (m : ℕ) (eneg : Bool) (e : ℕ) (double : Bool) → minus neg ++ (dec m ++ (46 ∷ exponent eneg e double)) ≡ spelled (real neg m eneg e double)
unfolding spelled
spelled_real neg m eneg e double = refl

spelled-text : (bs : List ℕ) → head (length bs) ++ bs ≡ spelled (text bs)
unfolding spelled
spelled-text bs = refl

-- behind the end nothing is left
none_left : (l : List ℕ) (i : ℕ) → i ≡ length l → drop i l ≡ []
none_left l i e = let h : length l ≤ i = omega arith in drop_of_length-le l h

-- what stands from i on, its minus first
minus-at : (l : List ℕ) (i : ℕ) → drop i l ≡ minus (eqb (get_or l i 0) 45) ++ drop (i + length (minus (eqb (get_or l i 0) 45))) l
minus-at l i = pick (eqb (get_or l i 0) 45) refl
  where
    pick : (b : Bool) → eqb (get_or l i 0) 45 ≡ b → drop i l ≡ minus b ++ drop (i + length (minus b)) l
    pick true e =
        let q : get_or l i 0 ≡ 45 = eqb-true (get_or l i 0) 45 e in
        drop-cons l i 0 (inside l i (omega arith)) ∙ rw (q, add-one)
    pick false e = ap (λ (k : ℕ). drop k l) (sym (add-zero i))

module _ (l : List ℕ) (neg : Bool) where
  if_whole : (size : ℕ) → l ≡ minus neg ++ dec size → If l (as_whole neg size)
  unfolding as_whole
  if_whole size e = pick (is_whole neg size) refl
    where
      pick : (b : Bool) → is_whole neg size ≡ b → If l (cond b (Some (Whole neg size)) None)
      pick true h = let f = whole_limits neg size h in ap strict_of (e ∙ spelled_whole neg size) ∙ complete (fine_whole neg size f.0 f.1) tt
      pick false h = tt

  if_real : (m : ℕ) (eneg : Bool) (e : ℕ) (double : Bool) → m < 10 ^ 17 → l ≡ minus neg ++ (dec m ++ (46 ∷ exponent eneg e double)) → If l (as_real neg m eneg e double)
  unfolding as_real
  if_real m eneg e double h q = pick (is_normal neg m eneg e) refl
    where
      pick : (b : Bool) → is_normal neg m eneg e ≡ b → If l (cond b (Some (Real neg m eneg e double)) None)
      pick true n = ap strict_of (q ∙ spelled_real neg m eneg e double) ∙ complete (fine_real (normal_limits neg m eneg e h n) double) tt
      pick false n = tt

  if_letter : (m : ℕ) (double : Bool) (i : ℕ) → m < 10 ^ 17 → l ≡ minus neg ++ (dec m ++ (46 ∷ (letter double ∷ drop i l))) → If l (behind_letter l neg m double i)
  unfolding behind_letter
  if_letter m double i h q = pick (eqb x.end k) refl (eqb x.end (length l)) refl (double || ltb 0 x.value) refl
    where
      eneg : Bool
      eneg = eqb (get_or l i 0) 45

      k : ℕ
      k = i + length (minus eneg)

      x : Decimal
      x = decimal (drop k l) k

      -- it is spelt so to the end
      long : (x.end ≡ k → ⊥) → x.end ≡ length l → drop i l ≡ minus eneg ++ dec x.value
      long n z = minus-at l i ∙ ap (λ (y : List ℕ). minus eneg ++ y) (decimal-spelt l k n ∙ ap (λ (y : List ℕ). dec x.value ++ y) (none_left l x.end z) ∙ append-nil _)

      pick : (a : Bool) → eqb x.end k ≡ a → (b : Bool) → eqb x.end (length l) ≡ b → (c : Bool) → (double || ltb 0 x.value) ≡ c
          → If l (cond a None (cond (b && c) (as_real neg m eneg x.value double) None))
      pick true ea b eb c ec = tt
      pick false ea true eb true ec =
          if_real m eneg x.value double h (q ∙ ap (λ (y : List ℕ). minus neg ++ (dec m ++ (46 ∷ (letter double ∷ y)))) (long (eqb-false x.end k ea) (eqb-true x.end (length l) eb)) ∙ rw ec)
      pick false ea true eb false ec = tt
      pick false ea false eb c ec = tt

  if_point : (m i : ℕ) → m < 10 ^ 17 → l ≡ minus neg ++ (dec m ++ (46 ∷ drop i l)) → If l (behind_point l neg m i)
  unfolding behind_point
  if_point m i h q = pick (eqb i (length l)) refl (eqb (get_or l i 0) 69) refl (eqb (get_or l i 0) 68) refl
    where
      c : ℕ
      c = get_or l i 0

      on : (double : Bool) → c ≡ letter double → 0 < c → l ≡ minus neg ++ (dec m ++ (46 ∷ (letter double ∷ drop (i + 1) l)))
      on double e z = q ∙ ap (λ (y : List ℕ). minus neg ++ (dec m ++ (46 ∷ y))) (drop-cons l i 0 (inside l i z) ∙ rw (e, add-one))

      pick : (a : Bool) → eqb i (length l) ≡ a → (b : Bool) → eqb c 69 ≡ b → (d : Bool) → eqb c 68 ≡ d
          → If l (cond a (as_real neg m false 0 false) (cond (b || d) (behind_letter l neg m d (i + 1)) None))
      pick true ea b eb d ed = if_real m false 0 false h (q ∙ ap (λ (y : List ℕ). minus neg ++ (dec m ++ (46 ∷ y))) (none_left l i (eqb-true i (length l) ea)))
      pick false ea b eb true ed = rw_or b (if_letter m true (i + 1) h (on true (eqb-true c 68 ed) (omega (arith, eqb-true c 68 ed))))
        where
          rw_or : (b : Bool) → If l (behind_letter l neg m true (i + 1)) → If l (cond (b || true) (behind_letter l neg m true (i + 1)) None)
          rw_or true f = f
          rw_or false f = f
      pick false ea true eb false ed = if_letter m false (i + 1) h (on false (eqb-true c 69 eb) (omega (arith, eqb-true c 69 eb)))
      pick false ea false eb false ed = tt

  if_count : (count i : ℕ) → l ≡ minus neg ++ (dec count ++ (72 ∷ drop i l)) → If l (behind_count l neg count i)
  unfolding behind_count
  if_count count i q = pick neg refl (leb 1 count) refl (leb count 999) refl (eqb (i + count) (length l)) refl (printable (drop i l)) refl
    where
      bs : List ℕ
      bs = drop i l

      back : neg ≡ false → 1 ≤ count → count ≤ 999 → i + count ≡ length l → printable bs ≡ true → strict_of l ≡ Some (Text i count)
      back n a b z p =
          let m : length bs ≡ count = length-drop i l ∙ omega arith in
          let s : l ≡ head count ++ bs = q ∙ rw n (sym (append_assoc (dec count) (72 ∷ []) bs)) in
          let k : length (head count) ≡ i = omega (arith, ap (λ (y : List ℕ). length y) s, length-append (head count) bs) in
          ap strict_of (s ∙ ap (λ (y : ℕ). head y ++ bs) (sym m) ∙ spelled-text bs) ∙ complete (fine_text bs (omega arith) (omega arith)) p ∙ rw (m, k)

      pick : (a : Bool) → neg ≡ a → (b : Bool) → leb 1 count ≡ b → (c : Bool) → leb count 999 ≡ c → (d : Bool) → eqb (i + count) (length l) ≡ d → (e : Bool) → printable bs ≡ e
          → If l (cond (not a && (b && (c && (d && e)))) (Some (Text i count)) None)
      pick false n true b true c true d true e = back n (leb-true 1 count b) (leb-true count 999 c) (eqb-true (i + count) (length l) d) e
      pick false n true b true c true d false e = tt
      pick false n true b true c false d f e = tt
      pick false n true b false c d ed f e = tt
      pick false n false b c ec d ed f e = tt
      pick true n b eb c ec d ed f e = tt

  if_digits : (v i : ℕ) → v < 10 ^ 17 → l ≡ minus neg ++ (dec v ++ drop i l) → If l (behind_digits l neg v i)
  unfolding behind_digits
  if_digits v i h q = pick (eqb i (length l)) refl (eqb c 46) refl (eqb c 72) refl
    where
      c : ℕ
      c = get_or l i 0

      on : (d : ℕ) → c ≡ d → 0 < d → l ≡ minus neg ++ (dec v ++ (d ∷ drop (i + 1) l))
      on d e z = q ∙ ap (λ (y : List ℕ). minus neg ++ (dec v ++ y)) (drop-cons l i 0 (inside l i (omega arith)) ∙ rw (e, add-one))

      pick : (a : Bool) → eqb i (length l) ≡ a → (b : Bool) → eqb c 46 ≡ b → (d : Bool) → eqb c 72 ≡ d
          → If l (cond a (as_whole neg v) (cond b (behind_point l neg v (i + 1)) (cond d (behind_count l neg v (i + 1)) None)))
      pick true ea b eb d ed = if_whole v (q ∙ ap (λ (y : List ℕ). minus neg ++ (dec v ++ y)) (none_left l i (eqb-true i (length l) ea)) ∙ ap (λ (y : List ℕ). minus neg ++ y) (append-nil (dec v)))
      pick false ea true eb d ed = if_point v (i + 1) h (on 46 (eqb-true c 46 eb) (omega arith))
      pick false ea false eb true ed = if_count v (i + 1) (on 72 (eqb-true c 72 ed) (omega arith))
      pick false ea false eb false ed = tt

if_direct : (l : List ℕ) → If l (direct_of l)
unfolding direct_of strict_of
if_direct [] = refl
if_direct (b ∷ bs) = rw (ne_eqb (length (b ∷ bs)) 0 (omega arith)) (pick (eqb x.end a) refl)
  where
    l : List ℕ
    l = b ∷ bs

    neg : Bool
    neg = eqb (get_or l 0 0) 45

    a : ℕ
    a = length (minus neg)

    x : Decimal
    x = decimal (drop a l) a

    pick : (c : Bool) → eqb x.end a ≡ c → If l (cond c None (behind_digits l neg x.value x.end))
    pick true e = tt
    pick false e =
        if_digits l neg x.value x.end (decimal-below (drop a l) a)
        (minus-at l 0 ∙ ap (λ (k : ℕ). minus neg ++ drop k l) (zero-add a) ∙ ap (λ (y : List ℕ). minus neg ++ y) (decimal-spelt l a (eqb-false x.end a e)))

-- ---- what is read back is read straight

module _ (l : List ℕ) where
  -- where something is left, the end is not reached
  some_left : (i b : ℕ) (q : List ℕ) → drop i l ≡ b ∷ q → eqb i (length l) ≡ false
  some_left i b q e = ne_eqb i (length l) (λ z. omega (arith, length-drop i l, ap (λ (y : List ℕ). length y) e))

  none_end : (i : ℕ) → i ≤ length l → drop i l ≡ [] → eqb i (length l) ≡ true
  none_end i h e = eq-eqb i (length l) (omega (arith, length-drop i l, ap (λ (y : List ℕ). length y) e))

  direct_digits : (neg : Bool) (m : ℕ) (q : List ℕ) → l ≡ minus neg ++ (dec m ++ q) → is_digit (get_or q 0 0) ≡ false → m < 10 ^ 17
      → direct_of l ≡ behind_digits l neg m (length (minus neg) + length (dec m))
  unfolding direct_of
  direct_digits neg m q e z h =
      let a = length (minus neg) in
      let n = length (dec m) in
      let s = signed l 0 neg (dec m ++ q) e (ds_first (dec_ds m) (dec_some m) q) in
      let d : drop a l ≡ dec m ++ q = rw zero-add at (next l 0 (minus neg) (dec m ++ q) e) in
      let k : length l ≡ a + (n + length q) = ap (λ (y : List ℕ). length y) e ∙ length-append (minus neg) (dec m ++ q) ∙ ap (λ (y : ℕ). a + y) (length-append (dec m) q) in
      rw (s.0, d, decimal-read m a q h z) (simp (ne_eqb (length l) 0 (omega (arith, dec_some m)), ne_eqb (a + n) a (omega (arith, dec_some m))))

  -- the places behind the sign and the digits
  behind : (neg : Bool) (m : ℕ) (q : List ℕ) → l ≡ minus neg ++ (dec m ++ q) → drop (length (minus neg) + length (dec m)) l ≡ q
  behind neg m q e = next l (length (minus neg)) (dec m) q (rw zero-add at (next l 0 (minus neg) (dec m ++ q) e))

  back_whole : (neg : Bool) (size : ℕ) → l ≡ minus neg ++ dec size → size ≤ 2147483647 → (size ≡ 0 → neg ≡ false) → direct_of l ≡ Some (Whole neg size)
  unfolding behind_digits as_whole
  back_whole neg size e h z =
      let e2 : l ≡ minus neg ++ (dec size ++ []) = e ∙ ap (λ (y : List ℕ). minus neg ++ y) (sym (append-nil (dec size))) in
      let k : length (minus neg) + length (dec size) ≡ length l = sym (ap (λ (y : List ℕ). length y) e ∙ length-append (minus neg) (dec size)) in
      direct_digits neg size [] e2 refl (omega arith) ∙ simp (eq-eqb _ (length l) k, limits_whole neg size h z)

  -- a point behind the digits
  direct_point : (neg : Bool) (m : ℕ) (y : List ℕ) → l ≡ minus neg ++ (dec m ++ (46 ∷ y)) → m < 10 ^ 17
      → (i : ℕ) → i ≡ length (minus neg) + length (dec m) + 1 → (direct_of l ≡ behind_point l neg m i) × (drop i l ≡ y) × (i ≤ length l)
  unfolding behind_digits
  direct_point neg m y e h i ei =
      let j = length (minus neg) + length (dec m) in
      let d : drop j l ≡ 46 ∷ y = behind neg m (46 ∷ y) e in (
        direct_digits neg m (46 ∷ y) e refl h ∙ rw (some_left j 46 y d, here l j (46 ∷ y) d, ei),
        rw ei (next l j (46 ∷ []) y d),
        omega (arith, length-drop j l, ap (λ (z : List ℕ). length z) d),
      )

  -- an exponent behind its letter
  direct_letter : (neg : Bool) (m : ℕ) (eneg : Bool) (e : ℕ) (double : Bool) (i : ℕ) → drop i l ≡ minus eneg ++ dec e → e ≤ 400 → (double || ltb 0 e) ≡ true
      → behind_letter l neg m double i ≡ as_real neg m eneg e double
  unfolding behind_letter
  direct_letter neg m eneg e double i d h t =
      let a = length (minus eneg) in
      let k = i + a in
      let d2 : drop i l ≡ minus eneg ++ (dec e ++ []) = d ∙ ap (λ (y : List ℕ). minus eneg ++ y) (sym (append-nil (dec e))) in
      let s = signed l i eneg (dec e ++ []) d2 (ds_first (dec_ds e) (dec_some e) []) in
      let d3 : drop k l ≡ dec e ++ [] = next l i (minus eneg) (dec e ++ []) d2 in
      let n : length l - k ≡ length (dec e) = sym (length-drop k l) ∙ ap (λ (y : List ℕ). length y) d3 ∙ length-append (dec e) [] ∙ add-zero _ in
      let z : k + length (dec e) ≡ length l = omega (arith, dec_some e) in
      rw (s.0, d3, decimal-read e k [] (omega arith) refl) (simp (ne_eqb (k + length (dec e)) k (omega (arith, dec_some e)), eq-eqb (k + length (dec e)) (length l) z, t))

  module _ {neg : Bool} {m : ℕ} {eneg : Bool} {e : ℕ} (ok : Normal neg m eneg e) where
    back_long : (double : Bool) → (double || ltb 0 e) ≡ true → l ≡ minus neg ++ (dec m ++ (46 ∷ ten_to eneg e double)) → direct_of l ≡ Some (Real neg m eneg e double)
    unfolding behind_point as_real
    back_long double t q =
        let i = length (minus neg) + length (dec m) + 1 in
        let y = minus eneg ++ dec e in
        let p = direct_point neg m (letter double ∷ y) q (sizes ok).0 i refl in
        let r = direct_letter neg m eneg e double (i + 1) (next l i (letter double ∷ []) y p.1) (sizes ok).1 t in
        p.0 ∙ rw (some_left i (letter double) y p.1, here l i (letter double ∷ y) p.1) (pick double i (r ∙ rw (limits_normal ok)))
      where
        pick : (double : Bool) (i : ℕ) {r : Option Value} → behind_letter l neg m double (i + 1) ≡ r
            → cond (eqb (letter double) 69 || eqb (letter double) 68) (behind_letter l neg m (eqb (letter double) 68) (i + 1)) None ≡ r
        pick true i e = e
        pick false i e = e

    back_short : e ≡ 0 → l ≡ minus neg ++ (dec m ++ (46 ∷ [])) → direct_of l ≡ Some (Real neg m eneg e false)
    unfolding behind_point as_real
    back_short z q =
        let i = length (minus neg) + length (dec m) + 1 in
        let p = direct_point neg m [] q (sizes ok).0 i refl in
        p.0 ∙ rw (none_end i p.2 p.1) (none ok z)
      where
        none : {neg : Bool} {m : ℕ} {eneg : Bool} {e : ℕ} → Normal neg m eneg e → e ≡ 0 → cond (is_normal neg m false 0) (Some (Real neg m false 0 false)) None ≡ Some (Real neg m eneg e false)
        none nought z = refl
        none (times neg m e n h k) z = rw (z, limits_normal (times neg m 0 n h (omega arith)))
        none (over neg m e n h o k) z = absurd (omega arith)

  back_real : {neg : Bool} {m : ℕ} {eneg : Bool} {e : ℕ} → Normal neg m eneg e → (double : Bool) → l ≡ minus neg ++ (dec m ++ (46 ∷ exponent eneg e double)) → direct_of l ≡ Some (Real neg m eneg e double)
  back_real {neg} {m} {eneg} {e} ok double q = pick double (ltb 0 e) refl q
    where
      pick : (double b : Bool) → ltb 0 e ≡ b → l ≡ minus neg ++ (dec m ++ (46 ∷ cond (double || b) (ten_to eneg e double) [])) → direct_of l ≡ Some (Real neg m eneg e double)
      pick true b h q = back_long ok true refl q
      pick false true h q = back_long ok false h q
      pick false false h q = back_short ok (omega (arith, ltb-false 0 e h)) q

  back_text : (bs : List ℕ) → 1 ≤ length bs → length bs ≤ 999 → printable bs ≡ true → l ≡ head (length bs) ++ bs → direct_of l ≡ Some (Text (length (head (length bs))) (length bs))
  unfolding behind_digits behind_count
  back_text bs a b p q =
      let n = length bs in
      let j = length (dec n) in
      let e : l ≡ dec n ++ (72 ∷ bs) = q ∙ append_assoc (dec n) (72 ∷ []) bs in
      let d : drop (0 + j) l ≡ 72 ∷ bs = behind false n (72 ∷ bs) e in
      let r : drop (0 + j + 1) l ≡ bs = next l (0 + j) (72 ∷ []) bs d in
      let k : 0 + j + 1 ≡ length (dec n ++ (72 ∷ [])) = rw zero-add (sym (length-append (dec n) (72 ∷ []))) in
      let z : 0 + j + 1 + n ≡ length l = omega (arith, length-drop (0 + j) l, ap (λ (y : List ℕ). length y) d) in
      direct_digits false n (72 ∷ bs) e refl (omega arith)
      ∙ rw (some_left (0 + j) 72 bs d, here l (0 + j) (72 ∷ bs) d) (simp (le-leb 1 n a, le-leb n 999 b, eq-eqb (0 + j + 1 + n) (length l) z, r, p) (ap (λ (y : ℕ). Some (Text y n)) k))

-- each value that a record can hold and a line can show is read straight from its spelling
back_direct : {v : Item} → Fine v → Printed v → direct_of (spelled v) ≡ Some (placed v)
unfolding spelled direct_of
back_direct fine_default p = refl
back_direct (fine_whole neg size h z) p = back_whole (minus neg ++ dec size) neg size refl h z
back_direct (fine_real {neg} {m} {eneg} {e} ok double) p = back_real _ ok double refl
back_direct (fine_text bs l h) p = back_text (head (length bs) ++ bs) bs l h p refl

-- ---- the two together

-- strict reading goes straight
pub direct : (l : List ℕ) → direct_of l ≡ strict_of l
direct l = pick (direct_of l) refl (strict_of l) refl (if_direct l)
  where
    is_some : Option Value → Bool
    is_some (Some v) = true
    is_some None = false

    pick : (r : Option Value) → direct_of l ≡ r → (s : Option Value) → strict_of l ≡ s → If l r → r ≡ s
    pick (Some v) er s es i = sym i ∙ es
    pick None er None es i = refl
    pick None er (Some v) es i =
        let w = sound l es in
        let t : direct_of l ≡ Some (placed (item_of l v)) = ap direct_of (sym w.text) ∙ back_direct w.fine w.printed in
        absurd (true≢false (ap is_some (sym t ∙ er)))
