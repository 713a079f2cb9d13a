-- What the functions of `values_digits`, `values_limits` and `values_read` are asked, one law for each need. Assumes nothing.
use mathlib.Core.Path.{◌≡◌, sym, ap, ◌∙◌}
use mathlib.Core.Bool.{Bool, true, false}
use mathlib.Core.List.{List}
use Prim.Native.Nat.{ℕ, ◌+◌, ◌-◌, ◌*◌, ◌^◌, ◌≤◌, ◌<◌, min}
use native.Mathlib.Nat.{min-eq_left}
use native.Mathlib.Omega.{arith}
use lib.ListN.{length, get_or, drop}
use lib.Dec.{ltb, eqb}
use borrow.Author.Tests.{eq-eqb, ne_eqb, lt-ltb, le-ltb, le-leb, lt-leb}
use Rattle.values.specs.declared.Run.{Run}
use Rattle.values.specs.declared.Number.TheVariants.{Whole, Real, Beyond}
use Rattle.values.specs.declared.Token.{Token}
use Rattle.values.specs.declared.Power.{Power}
use Rattle.values.specs.declared.Power.TheVariants.{None}
use Rattle.values.specs.Number.{sign_len, point_len, token, power_of, power, power_at, whole_of, normal, number_of}
use Rattle.values.specs.Reading.{start, more, scan, cap_run, Small, finish_run}
use Rattle.values.proofs.Laws.{scan_low, scan_high, scan-end, small_more, stop, turn, power-parts, power_E, power-D, power-none, number-parts}
use Rattle.values.proofs.Ends.{number_in}

-- ---- signs, points, digits

module _ (c : ℕ) where
  pub sign_plus : c ≡ 43 → 1 ≡ sign_len c
  sign_plus e = simp (eq-eqb c 43 e)

  pub sign_minus : (c ≡ 43 → ⊥) → c ≡ 45 → 1 ≡ sign_len c
  sign_minus n e = simp (ne_eqb c 43 n, eq-eqb c 45 e)

  pub sign_none : (c ≡ 43 → ⊥) → (c ≡ 45 → ⊥) → 0 ≡ sign_len c
  sign_none n m = simp (ne_eqb c 43 n, ne_eqb c 45 m)

  pub point_some : c ≡ 46 → 1 ≡ point_len c
  point_some e = simp (eq-eqb c 46 e)

  pub point-none : (c ≡ 46 → ⊥) → 0 ≡ point_len c
  point-none n = simp (ne_eqb c 46 n)

module _ (r : Run) (c : ℕ) {v : ℕ} (ev : v ≡ min (r.value * 10 + (c - 48)) (10 ^ 17)) where
  pub more_zero : Small r → c ≡ 48 → record { value = v; mant = r.mant; zeros = r.zeros + 1; count = r.count + 1 } ≡ cap_run (more r c)
  more_zero h e = simp (ev, eq-eqb c 48 e, min-eq_left h.mant)

  pub more_digit : (c ≡ 48 → ⊥) → record { value = v; mant = v; zeros = 0; count = r.count + 1 } ≡ cap_run (more r c)
  more_digit n = simp (ev, ne_eqb c 48 n)

-- what the digits spell with one more, capped or too few for the cap to be felt
module _ (x c : ℕ) {d : ℕ} (ed : d ≡ c) where
  pub more-capped : {v : ℕ} → v ≡ min (x * 10 + (d - 48)) (10 ^ 17) → v ≡ min (x * 10 + (c - 48)) (10 ^ 17)
  more-capped ev = rw (← ed) ev

  pub more_few : x < 10 ^ 16 → c ≤ 57 → x * 10 + (d - 48) ≡ min (x * 10 + (c - 48)) (10 ^ 17)
  more_few h l = omega arith

-- ---- numbers

module _ (neg : Bool) (v end : ℕ) where
  pub whole_beyond : 2147483647 < v → token Beyond end ≡ whole_of neg v end
  whole_beyond h = simp (lt-leb v 2147483647 h)

  pub whole_nought : v ≡ 0 → token (Whole false 0) end ≡ whole_of neg v end
  whole_nought e = simp e

  pub whole_some : v ≤ 2147483647 → (v ≡ 0 → ⊥) → token (Whole neg v) end ≡ whole_of neg v end
  whole_some h n = simp (le-leb v 2147483647 h, ne_eqb v 0 n)

module _ (neg : Bool) (m up down : ℕ) (double : Bool) (end : ℕ) where
  pub real_nought : m ≡ 0 → token (Real false 0 false 0 double) end ≡ normal neg m up down double end
  real_nought e = simp (eq-eqb m 0 e)

  pub real_long : (m ≡ 0 → ⊥) → 10 ^ 17 ≤ m → token Beyond end ≡ normal neg m up down double end
  real_long n h = simp (ne_eqb m 0 n, le-ltb m (10 ^ 17) h)

  module _ (n : m ≡ 0 → ⊥) (l : m < 10 ^ 17) (e : ℕ) (k : e ≡ (up - down) + (down - up)) where
    pub real_far : 400 < e → token Beyond end ≡ normal neg m up down double end
    real_far h = simp (ne_eqb m 0 n, lt-ltb m (10 ^ 17) l, ← k, lt-leb e 400 h)

    pub real_near : (b : Bool) → b ≡ ltb up down → e ≤ 400 → token (Real neg m b e double) end ≡ normal neg m up down double end
    real_near b q h = simp (ne_eqb m 0 n, lt-ltb m (10 ^ 17) l, ← k, ← q, le-leb e 400 h)

pub ruleset parts = (sign_plus, sign_minus, sign_none, point_some, point-none, more_zero, more_digit, more-capped, more_few, whole_beyond, whole_nought, whole_some, real_nought, real_long, real_far, real_near)

-- ---- digits of a text

-- what the loop has in hand at k: the whole run x is the rest of it
module _ (t : List ℕ) (k : ℕ) (r x : Run) (e : x ≡ cap_run (scan (drop k t) r)) (h : Small r) where
  pub stop_low : k < length t → get_or t k 0 < 48 → r ≡ x
  stop_low l a = stop t k r x e h (scan_low t k r l a)

  pub stop_high : k < length t → 57 < get_or t k 0 → r ≡ x
  stop_high l a = stop t k r x e h (scan_high t k r l a)

  pub stop-end : length t ≤ k → r ≡ x
  stop-end l = stop t k r x e h (scan-end t k r l)

  pub next_digit : {q : Run} → k < length t → 48 ≤ get_or t k 0 → get_or t k 0 ≤ 57 → q ≡ cap_run (more r (get_or t k 0)) → x ≡ cap_run (scan (drop (k + 1) t) q)
  next_digit l a b eq = turn t k r x e h l a b ∙ ap (λ (y : Run). cap_run (scan (drop (k + 1) t) y)) (sym eq)

-- the rest of it read by another
pub rest_same : (t : List ℕ) (k : ℕ) (r x : Run) {q : Run} → x ≡ cap_run (scan (drop k t) r) → q ≡ cap_run (scan (drop k t) r) → q ≡ x
rest_same t k r x e p = p ∙ sym e

module _ (r q : Run) where
  pub rest_more : (n : ℕ) → n ≤ r.count → r.count ≤ q.count → n ≤ q.count
  rest_more n a b = omega arith

  pub rest_left : (m n : ℕ) → r.count + m ≤ n → q.count ≤ r.count + m → q.count ≤ n
  rest_left m n a b = omega arith

module _ (r : Run) (c : ℕ) {q : Run} (e : q ≡ cap_run (more r c)) where
  pub next_small : Small r → Small q
  next_small h = rw e (small_more r c h)

  next-count : q.count ≡ r.count + 1
  next-count = ap (λ (y : Run). y.count) e

  pub next_left : (m k n : ℕ) → k < m → r.count + (m - k) ≤ n → q.count + (m - (k + 1)) ≤ n
  next_left m k n l h = omega (arith, next-count)

  pub next_more : (n : ℕ) → n ≤ r.count → n ≤ q.count
  next_more n h = omega (arith, next-count)

-- ---- exponents

module _ (t : List ℕ) (i : ℕ) (s k : ℕ) (x : Run) (es : s ≡ get_or t i 0) (ek : k ≡ sign_len s) (ex : x ≡ cap_run (scan (drop (i + k) t) start)) where
  pub power_size : x.value < 10 ^ x.count
  power_size = (power-parts t i false s k x es ek ex).0

  pub power_all : (double : Bool) {r : Power} → r ≡ power_of (eqb s 45) x.count x.value double (i + k) (i + k + x.count) → r ≡ power t i double
  power_all double e = e ∙ (power-parts t i double s k x es ek ex).1

module _ (t : List ℕ) (i c : ℕ) (e : c ≡ get_or t i 0) where
  pub at_E : {r : Power} → c ≡ 69 → r ≡ power t (i + 1) false → r ≡ power_at t i
  at_E q p = p ∙ power_E t i c e q

  pub at-D : {r : Power} → c ≡ 68 → r ≡ power t (i + 1) true → r ≡ power_at t i
  at-D q p = p ∙ power-D t i c e q

  pub at_none : (c ≡ 69 → ⊥) → (c ≡ 68 → ⊥) → None ≡ power_at t i
  at_none p q = power-none t i c e p q

pub ruleset powers = (power_size, power_all, at_E, at-D, at_none)

-- ---- the parts put together

module _ (t : List ℕ) (a : ℕ) (r : Run) where
  pub before_all : a ≡ 0 → r ≡ cap_run (scan t start) → r ≡ cap_run (scan (drop a t) start)
  before_all e h = rw e h

  pub before_in : a ≡ 0 → r.count ≤ length t → r.count ≤ length t - a
  before_in e h = omega arith

module _ (t : List ℕ) (s a : ℕ) (w : Run) (b p : ℕ) (r : Run) (x : Power) {q : Token} where
  pub number_all : s ≡ get_or t 0 0 → a ≡ sign_len s → w ≡ cap_run (scan (drop a t) start) → b ≡ get_or t (a + w.count) 0 → p ≡ point_len b
      → r ≡ cap_run (scan (drop (a + w.count + p) t) w) → x ≡ power_at t (a + r.count + p) → q ≡ finish_run x (eqb s 45) r (r.count - w.count) p (a + r.count + p) → q ≡ number_of t
  number_all es ea ew eb ep er ex eq = eq ∙ number-parts t s a w p r x es ea ew (ep ∙ ap point_len eb) er ex

pub ruleset scans = (rest_same, rest_more, rest_left, stop_low, stop_high, stop-end, next_digit, next_small, next_left, next_more)

pub ruleset numbered = (before_all, before_in, number_all, number_in)
