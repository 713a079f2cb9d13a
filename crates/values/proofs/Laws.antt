-- Laws of the definitions of specs/Number.antt. Assumes nothing.
use mathlib.Core.Path.{◌≡◌, refl, sym, ap, ◌∙◌}
use mathlib.Core.Bool.{Bool, true, false, cond, and-false}
use mathlib.Core.Logic.{◌⊎◌, inl, inr}
use mathlib.Core.List.{List, [], ◌∷◌, ◌++◌}
use Prim.Native.Nat.{ℕ, zero, suc, ◌+◌, ◌-◌, ◌*◌, ◌/◌, ◌%◌, ◌^◌, ◌≤◌, ◌<◌, min}
use native.Mathlib.Nat.{lt_of_lt_of_le, pow-le-pow_right, pow-suc, zero-add, add-zero, mul-one, zero-mul, mul_assoc, mul-div_cancel, zero-div, one-le-pow, not-suc-le-zero, le_of_suc-le-suc}
use native.Mathlib.Omega.{arith}
use native.Mathlib.Numerals.{add-one}
use lib.ListN.{length, get_or, drop, drop_of_length-le}
use lib.Seq.{drop-cons}
use lib.Dec.{ltb, leb, eqb}
use borrow.Author.Tests.{eqb-true, eqb-false, leb-true, leb-false, ltb-true, ltb-false, eq-eqb, ne_eqb, le-leb, lt-leb}
use Rattle.columns.proofs.Tests.{both_left, both_right}
use Rattle.values.specs.declared.Run.{Run}
use Rattle.values.specs.declared.Number.TheVariants.{Bad}
use Rattle.values.specs.declared.Token.{Token}
use Rattle.values.specs.declared.Power.{Power}
use Rattle.values.specs.declared.Power.TheVariants.{None, Wrong, Of}
use Rattle.values.specs.Number.{is_digit, digits, value, tens, token, sign_len, point_len, power_of, power, power_at, whole_of, normal, real_of, finish, number_of}
use Rattle.values.specs.Reading.{start, more, scan, cap_run, Small, finish_run}

-- ---- a number that is capped early is capped late

pub cap_small : (r : Run) → Small r → cap_run r ≡ r
cap_small r h =
    let v : min r.value (10 ^ 17) ≡ r.value = omega arith in
    let m : min r.mant (10 ^ 17) ≡ r.mant = omega arith in
    λ j. record { value = v j; mant = m j; zeros = r.zeros; count = r.count }

cap_cap : (r : Run) → cap_run (cap_run r) ≡ cap_run r
cap_cap r =
    let v : min (min r.value (10 ^ 17)) (10 ^ 17) ≡ min r.value (10 ^ 17) = omega arith in
    let m : min (min r.mant (10 ^ 17)) (10 ^ 17) ≡ min r.mant (10 ^ 17) = omega arith in
    λ j. record { value = v j; mant = m j; zeros = r.zeros; count = r.count }

cap_more : (r : Run) (c : ℕ) → cap_run (more (cap_run r) c) ≡ cap_run (more r c)
cap_more r c = λ j. record { value = v j; mant = m (eqb c 48) j; zeros = cond (eqb c 48) (r.zeros + 1) 0; count = r.count + 1 }
  where
    v : min (min r.value (10 ^ 17) * 10 + (c - 48)) (10 ^ 17) ≡ min (r.value * 10 + (c - 48)) (10 ^ 17)
    v = omega arith

    m : (b : Bool) → min (cond b (min r.mant (10 ^ 17)) (min r.value (10 ^ 17) * 10 + (c - 48))) (10 ^ 17) ≡ min (cond b r.mant (r.value * 10 + (c - 48))) (10 ^ 17)
    m true = omega arith
    m false = v

pub cap_scan : (l : List ℕ) (r : Run) → cap_run (scan l (cap_run r)) ≡ cap_run (scan l r)
cap_scan [] r = cap_cap r
cap_scan (c ∷ cs) r = pick (is_digit c) (sym (cap_scan cs (more (cap_run r) c)) ∙ ap (λ (q : Run). cap_run (scan cs q)) (cap_more r c) ∙ cap_scan cs (more r c))
  where
    pick : (b : Bool) → cap_run (scan cs (more (cap_run r) c)) ≡ cap_run (scan cs (more r c))
        → cap_run (cond b (scan cs (more (cap_run r) c)) (cap_run r)) ≡ cap_run (cond b (scan cs (more r c)) r)
    pick true h = h
    pick false h = cap_cap r

-- ---- a turn of the loop

module _ (t : List ℕ) (k : ℕ) (r : Run) where
  pub scan-end : length t ≤ k → scan (drop k t) r ≡ r
  scan-end h = rw (drop_of_length-le t h)

  pub scan_low : k < length t → get_or t k 0 < 48 → scan (drop k t) r ≡ r
  scan_low h l = simp (drop-cons t k 0 h, lt-leb 48 (get_or t k 0) l)

  pub scan_high : k < length t → 57 < get_or t k 0 → scan (drop k t) r ≡ r
  scan_high h l = simp (drop-cons t k 0 h, le-leb 48 (get_or t k 0) (omega arith), lt-leb (get_or t k 0) 57 l)

  pub scan-more : k < length t → 48 ≤ get_or t k 0 → get_or t k 0 ≤ 57 → scan (drop k t) r ≡ scan (drop (k + 1) t) (more r (get_or t k 0))
  scan-more h a b = simp (add-one, drop-cons t k 0 h, le-leb 48 (get_or t k 0) a, le-leb (get_or t k 0) 57 b)

pub small_more : (r : Run) (c : ℕ) → Small r → Small (cap_run (more r c))
small_more r c h = record { value = omega arith; mant = omega arith; zeros = pick (eqb c 48) }
  where
    pick : (b : Bool) → cond b (r.zeros + 1) 0 ≤ r.count + 1
    pick true = omega arith
    pick false = omega arith

-- what the loop has in hand at k: the whole run x is the rest of it
module _ (t : List ℕ) (k : ℕ) (r x : Run) (e : x ≡ cap_run (scan (drop k t) r)) (h : Small r) where
  pub stop : scan (drop k t) r ≡ r → r ≡ x
  stop s = sym (e ∙ ap cap_run s ∙ cap_small r h)

  pub turn : k < length t → 48 ≤ get_or t k 0 → get_or t k 0 ≤ 57 → x ≡ cap_run (scan (drop (k + 1) t) (cap_run (more r (get_or t k 0))))
  turn l a b = e ∙ ap cap_run (scan-more t k r l a b) ∙ sym (cap_scan (drop (k + 1) t) (more r (get_or t k 0)))

-- ---- exponents

-- three digits spell less than a thousand
pub three : (v n : ℕ) → v < 10 ^ n → n ≤ 3 → v < 1000
three v n h l = lt_of_lt_of_le h (pow-le-pow_right (omega arith) l)

pub wrong-none : (neg : Bool) (count x : ℕ) (double : Bool) (from end : ℕ) → count < 1 → Wrong from ≡ power_of neg count x double from end
wrong-none neg count x double from end h =
    let z : from ≡ from + min count 3 = omega arith in
    simp (lt-leb 1 count h) (ap Wrong z)

pub wrong-many : (neg : Bool) (count x : ℕ) (double : Bool) (from end : ℕ) → 3 < count → Wrong (from + 3) ≡ power_of neg count x double from end
wrong-many neg count x double from end h =
    let z : from + 3 ≡ from + min count 3 = omega arith in
    simp (le-leb 1 count (omega arith), lt-leb count 3 h) (ap Wrong z)

-- ---- the cases of `finish`, with a digit at least
module _ (x : Power) (neg : Bool) (r : Run) (n p end : ℕ) (z : r.count ≡ 0 → ⊥) where
  pub finish_whole : x ≡ None → p ≡ 0 → whole_of neg r.value end ≡ finish_run x neg r n p end
  finish_whole e q = simp (ne_eqb r.count 0 z, e, q)

  pub finish_real : x ≡ None → (p ≡ 0 → ⊥) → normal neg r.mant r.zeros n false end ≡ finish_run x neg r n p end
  finish_real e q = simp (ne_eqb r.count 0 z, e, ne_eqb p 0 q)

  pub finish-wrong : (at : ℕ) → x ≡ Wrong at → token Bad at ≡ finish_run x neg r n p end
  finish-wrong at e = simp (ne_eqb r.count 0 z, e)

  pub finish-power : (up down : ℕ) (double : Bool) (last u d : ℕ) → x ≡ Of up down double last → u ≡ up → d ≡ down
      → normal neg r.mant (r.zeros + u) (n + d) double last ≡ finish_run x neg r n p end
  finish-power up down double last u d e eu ed = simp (ne_eqb r.count 0 z, e, eu, ed)

-- ---- the same, as the code comes to them

module _ (neg : Bool) (count x : ℕ) (double : Bool) (from end : ℕ) where
  pub power-neg : neg ≡ true → 1 ≤ count → count ≤ 3 → Of 0 x double end ≡ power_of neg count x double from end
  power-neg e l h = simp (e, le-leb 1 count l, le-leb count 3 h)

  pub power_pos : neg ≡ false → 1 ≤ count → count ≤ 3 → Of x 0 double end ≡ power_of neg count x double from end
  power_pos e l h = simp (e, le-leb 1 count l, le-leb count 3 h)

pub power-fits : (x count : ℕ) → x < 10 ^ count → count ≤ 3 → x < 2 ^ 16
power-fits x count h l = omega (arith, three x count h l)

module _ (x : Power) (neg : Bool) (r : Run) (n p end : ℕ) {q : Token} where
  pub end_whole : (r.count ≡ 0 → ⊥) → x ≡ None → p ≡ 0 → q ≡ whole_of neg r.value end → q ≡ finish_run x neg r n p end
  end_whole z e h k = k ∙ finish_whole x neg r n p end z e h

  pub end_real : (r.count ≡ 0 → ⊥) → x ≡ None → (p ≡ 0 → ⊥) → q ≡ normal neg r.mant r.zeros n false end → q ≡ finish_run x neg r n p end
  end_real z e h k = k ∙ finish_real x neg r n p end z e h

  pub end-power : {up down : ℕ} {double : Bool} {last u d : ℕ} → (r.count ≡ 0 → ⊥) → x ≡ Of up down double last → u ≡ up → d ≡ down
      → q ≡ normal neg r.mant (r.zeros + u) (n + d) double last → q ≡ finish_run x neg r n p end
  end-power z e eu ed k = k ∙ finish-power x neg r n p end z _ _ _ _ _ _ e eu ed

module _ (x : Power) (neg : Bool) (r : Run) (n p end : ℕ) where
  pub end_none : r.count ≡ 0 → token Bad end ≡ finish_run x neg r n p end
  end_none e = simp (eq-eqb r.count 0 e)

  pub end-wrong : {at : ℕ} → (r.count ≡ 0 → ⊥) → x ≡ Wrong at → token Bad at ≡ finish_run x neg r n p end
  end-wrong z e = finish-wrong x neg r n p end z _ e

pub ruleset laws = (wrong-none, wrong-many, power-neg, power_pos, power-fits, end_whole, end_real, end-power, end_none, end-wrong)

-- ---- what is read does not turn on the cap

-- digits spell less than ten to their count
pub bound : (l : List ℕ) (r : Run) → r.value < 10 ^ r.count → (scan l r).value < 10 ^ (scan l r).count
bound [] r h = h
bound (c ∷ cs) r h = pick (is_digit c) refl (bound cs (more r c))
  where
    pick : (b : Bool) → is_digit c ≡ b → ((more r c).value < 10 ^ (more r c).count → (scan cs (more r c)).value < 10 ^ (scan cs (more r c)).count)
        → (cond b (scan cs (more r c)) r).value < 10 ^ (cond b (scan cs (more r c)) r).count
    pick true e ih = ih (rw (add-one, pow-suc) (omega (arith, leb-true c 57 (both_right (leb 48 c) (leb c 57) e))))
    pick false e ih = h

power_cap : (neg : Bool) (n v : ℕ) (double : Bool) (from end : ℕ) → v < 10 ^ n → power_of neg n (min v (10 ^ 17)) double from end ≡ power_of neg n v double from end
power_cap neg n v double from end h = pick (leb n 3) refl
  where
    pick : (b : Bool) → leb n 3 ≡ b → power_of neg n (min v (10 ^ 17)) double from end ≡ power_of neg n v double from end
    pick true e = let q : min v (10 ^ 17) ≡ v = omega (arith, three v n h (leb-true n 3 e)) in simp q
    pick false e = simp (e, and-false)

whole_cap : (neg : Bool) (v end : ℕ) → whole_of neg (min v (10 ^ 17)) end ≡ whole_of neg v end
whole_cap neg v end = pick (leb v 2147483647) refl
  where
    pick : (b : Bool) → leb v 2147483647 ≡ b → whole_of neg (min v (10 ^ 17)) end ≡ whole_of neg v end
    pick true e = let q : min v (10 ^ 17) ≡ v = omega (arith, leb-true v 2147483647 e) in simp q
    pick false e = simp (e, lt-leb (min v (10 ^ 17)) 2147483647 (omega (arith, leb-false v 2147483647 e)))

real_cap : (neg : Bool) (m up down : ℕ) (double : Bool) (end : ℕ) → normal neg (min m (10 ^ 17)) up down double end ≡ normal neg m up down double end
real_cap neg m up down double end = pick (ltb m (10 ^ 17)) refl
  where
    pick : (b : Bool) → ltb m (10 ^ 17) ≡ b → normal neg (min m (10 ^ 17)) up down double end ≡ normal neg m up down double end
    pick true e = let q : min m (10 ^ 17) ≡ m = omega (arith, ltb-true m (10 ^ 17) e) in simp q
    pick false e =
        let h : 10 ^ 17 ≤ m = ltb-false m (10 ^ 17) e in
        let q : min m (10 ^ 17) ≡ 10 ^ 17 = omega arith in
        simp (q, e, ne_eqb m 0 (omega arith))

finish_cap : (x : Power) (neg : Bool) (r : Run) (n p end : ℕ) → finish_run x neg (cap_run r) n p end ≡ finish_run x neg r n p end
finish_cap None neg r n p end = simp (whole_cap, real_cap)
finish_cap (Wrong at) neg r n p end = refl
finish_cap (Of up down double last) neg r n p end = simp real_cap

-- ---- a run is what its digits spell

pub value-append : (v : ℕ) (xs ys : List ℕ) → value v (xs ++ ys) ≡ value (value v xs) ys
value-append v [] ys = refl
value-append v (c ∷ cs) ys = value-append (v * 10 + (c - 48)) cs ys

pub scan-value : (l : List ℕ) (r : Run) → (scan l r).value ≡ value r.value (digits l)
scan-value [] r = refl
scan-value (c ∷ cs) r = pick (is_digit c) (scan-value cs (more r c))
  where
    pick : (b : Bool) → (scan cs (more r c)).value ≡ value (r.value * 10 + (c - 48)) (digits cs)
        → (cond b (scan cs (more r c)) r).value ≡ value r.value (cond b (c ∷ digits cs) [])
    pick true h = h
    pick false h = refl

pub scan-count : (l : List ℕ) (r : Run) → (scan l r).count ≡ r.count + length (digits l)
scan-count [] r = omega arith
scan-count (c ∷ cs) r = pick (is_digit c) (scan-count cs (more r c))
  where
    pick : (b : Bool) → (scan cs (more r c)).count ≡ r.count + 1 + length (digits cs)
        → (cond b (scan cs (more r c)) r).count ≡ r.count + length (cond b (c ∷ digits cs) [])
    pick true h = omega arith
    pick false h = omega arith

-- ---- its significand and its zeros

-- the run's value is its significand with its zeros, and the significand ends in no zero
record Good (r : Run) : Type 0 where
  whole : r.value ≡ r.mant * 10 ^ r.zeros
  ends : (r.mant ≡ 0) ⊎ (r.mant % 10 ≡ 0 → ⊥)
  zeros : r.zeros ≤ r.count

good_more : (r : Run) (c : ℕ) → 48 ≤ c → c ≤ 57 → Good r → Good (more r c)
good_more r c a b g = pick (eqb c 48) refl
  where
    pick : (d : Bool) → eqb c 48 ≡ d → Good (record { value = r.value * 10 + (c - 48); mant = cond d r.mant (r.value * 10 + (c - 48)); zeros = cond d (r.zeros + 1) 0; count = r.count + 1 })
    pick true e =
        let q : c ≡ 48 = eqb-true c 48 e in
        record { whole = rw (add-one r.zeros, pow-suc 10 r.zeros, ← mul_assoc r.mant (10 ^ r.zeros) 10, ← g.whole) (omega arith); ends = g.ends; zeros = omega (arith, g.zeros) }
    pick false e =
        let q = eqb-false c 48 e in
        record { whole = sym (mul-one _); ends = inr (omega arith); zeros = omega arith }

good_scan : (l : List ℕ) (r : Run) → Good r → Good (scan l r)
good_scan [] r g = g
good_scan (c ∷ cs) r g = pick (is_digit c) refl (good_scan cs (more r c))
  where
    pick : (b : Bool) → is_digit c ≡ b → (Good (more r c) → Good (scan cs (more r c))) → Good (cond b (scan cs (more r c)) r)
    pick true e ih = ih (good_more r c (leb-true 48 c (both_left (leb 48 c) (leb c 57) e)) (leb-true c 57 (both_right (leb 48 c) (leb c 57) e)) g)
    pick false e ih = g

pub tens-of : (z k m : ℕ) → z ≤ k → (m % 10 ≡ 0 → ⊥) → tens k (m * 10 ^ z) ≡ z
tens-of zero zero m h n = refl
tens-of zero (suc k) m h n = rw (mul-one m) (simp (ne_eqb (m % 10) 0 n))
tens-of (suc z) zero m h n = absurd (not-suc-le-zero h)
tens-of (suc z) (suc k) m h n =
    let e : m * 10 ^ suc z ≡ m * 10 ^ z * 10 = rw pow-suc (sym (mul_assoc m (10 ^ z) 10)) in
    let r : m * 10 ^ z * 10 % 10 ≡ 0 = omega arith in
    let q : m * 10 ^ z * 10 / 10 ≡ m * 10 ^ z = omega arith in
    rw (e, r, q) (ap suc (tens-of z k m (le_of_suc-le-suc h) n))

module _ (neg : Bool) (r : Run) (g : Good r) where
  normal_real : (up down : ℕ) (double : Bool) (end : ℕ) → normal neg r.mant (r.zeros + up) down double end ≡ real_of neg r.value r.count up down double end
  normal_real up down double end = pick g.ends
    where
      pick : (r.mant ≡ 0) ⊎ (r.mant % 10 ≡ 0 → ⊥) → normal neg r.mant (r.zeros + up) down double end ≡ real_of neg r.value r.count up down double end
      pick (inl e) = let v : r.value ≡ 0 = g.whole ∙ rw e (zero-mul _) in rw (e, v, zero-div)
      pick (inr n) =
          let t : tens r.count r.value ≡ r.zeros = rw g.whole (tens-of r.zeros r.count r.mant g.zeros n) in
          let q : r.value / 10 ^ r.zeros ≡ r.mant = rw g.whole (mul-div_cancel r.mant (one-le-pow r.zeros 10 (omega arith))) in
          rw (t, q)

  finish-run : (x : Power) (n p end : ℕ) → finish_run x neg r n p end ≡ finish x neg r.value r.count n p end
  finish-run None n p end =
      ap (λ (q : Token). cond (eqb r.count 0) (token Bad end) (cond (eqb p 0) (whole_of neg r.value end) q))
      (ap (λ (k : ℕ). normal neg r.mant k n false end) (sym (add-zero r.zeros)) ∙ normal_real 0 n false end)
  finish-run (Wrong at) n p end = refl
  finish-run (Of up down double last) n p end = ap (λ (q : Token). cond (eqb r.count 0) (token Bad end) q) (normal_real up (n + down) double last)

-- ---- the parts put together

module _ (t : List ℕ) where
  pub power-parts : (i : ℕ) (double : Bool) (s k : ℕ) (x : Run) → s ≡ get_or t i 0 → k ≡ sign_len s → x ≡ cap_run (scan (drop (i + k) t) start)
      → (x.value < 10 ^ x.count) × (power_of (eqb s 45) x.count x.value double (i + k) (i + k + x.count) ≡ power t i double)
  unfolding power
  power-parts i double s k x es ek ex =
      let l = drop (i + k) t in
      let X = scan l start in
      let b = bound l start (omega arith) in
      let n : X.count ≡ length (digits l) = scan-count l start ∙ zero-add _ in
      rw ex (omega arith, power_cap (eqb s 45) X.count X.value double (i + k) (i + k + X.count) b ∙ rw (n, scan-value l start, ek, es))

  pub power_E : (i c : ℕ) → c ≡ get_or t i 0 → c ≡ 69 → power t (i + 1) false ≡ power_at t i
  unfolding power_at
  power_E i c e q = let g : get_or t i 0 ≡ 69 = sym e ∙ q in rw g

  pub power-D : (i c : ℕ) → c ≡ get_or t i 0 → c ≡ 68 → power t (i + 1) true ≡ power_at t i
  unfolding power_at
  power-D i c e q = let g : get_or t i 0 ≡ 68 = sym e ∙ q in rw g

  pub power-none : (i c : ℕ) → c ≡ get_or t i 0 → (c ≡ 69 → ⊥) → (c ≡ 68 → ⊥) → None ≡ power_at t i
  unfolding power_at
  power-none i c e p q = rw (← e) (simp (ne_eqb c 69 p, ne_eqb c 68 q))

  pub number-of : (s a w p v n f : ℕ) → s ≡ get_or t 0 0 → a ≡ sign_len s → w ≡ length (digits (drop a t)) → p ≡ point_len (get_or t (a + w) 0)
      → v ≡ value 0 (digits (drop a t) ++ digits (drop (a + w + p) t)) → n ≡ length (digits (drop a t)) + length (digits (drop (a + w + p) t))
      → f ≡ length (digits (drop (a + w + p) t)) → finish (power_at t (a + n + p)) (eqb s 45) v n f p (a + n + p) ≡ number_of t
  unfolding number_of
  number-of s a w p v n f es ea ew ep ev en ef = rw (ev, en, ef, ep, ew, ea, es)

  pub number-parts : (s a : ℕ) (w : Run) (p : ℕ) (r : Run) (x : Power) → s ≡ get_or t 0 0 → a ≡ sign_len s → w ≡ cap_run (scan (drop a t) start)
      → p ≡ point_len (get_or t (a + w.count) 0) → r ≡ cap_run (scan (drop (a + w.count + p) t) w) → x ≡ power_at t (a + r.count + p)
      → finish_run x (eqb s 45) r (r.count - w.count) p (a + r.count + p) ≡ number_of t
  number-parts s a w p r x es ea ew ep er ex =
      let K = drop a t in
      let W = scan K start in
      let L = drop (a + w.count + p) t in
      let R = scan L W in
      let er2 : r ≡ cap_run R = er ∙ ap (λ (v : Run). cap_run (scan L v)) ew ∙ cap_scan L W in
      let cW : W.count ≡ length (digits K) = scan-count K start ∙ zero-add _ in
      let cw : w.count ≡ length (digits K) = ap (λ (v : Run). v.count) ew ∙ cW in
      let cR : R.count ≡ length (digits K) + length (digits L) = scan-count L W ∙ ap (λ (n : ℕ). n + length (digits L)) cW in
      let vR : R.value ≡ value 0 (digits K ++ digits L) = scan-value L W ∙ ap (λ (v : ℕ). value v (digits L)) (scan-value K start) ∙ sym (value-append 0 (digits K) (digits L)) in
      let g : Good R = good_scan L W (good_scan K start (record { whole = refl; ends = inl refl; zeros = omega arith })) in
      let E = a + R.count + p in
      rw (ex, er2) (finish_cap (power_at t E) (eqb s 45) R (R.count - w.count) p E ∙ finish-run (eqb s 45) R g (power_at t E) (R.count - w.count) p E
      ∙ number-of s a w.count p R.value R.count (R.count - w.count) es ea cw ep vR cR (omega arith))
