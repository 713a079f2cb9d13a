-- Where a number ends: within the text, and behind its start. Assumes nothing.
use mathlib.Core.Path.{◌≡◌, refl}
use mathlib.Core.Bool.{Bool, true, false, cond, ◌&&◌, ◌||◌}
use mathlib.Core.List.{List, [], ◌∷◌, ◌++◌}
use Prim.Native.Nat.{ℕ, suc, ◌+◌, ◌≤◌, ◌<◌, min}
use native.Mathlib.Omega.{arith}
use lib.ListN.{length, get_or, drop, length-drop, get_or-eq_default}
use lib.Dec.{ltb, leb, eqb}
use borrow.Author.Tests.{ltb-true, ltb-false, eqb-true, eqb-false}
use Rattle.values.specs.declared.Number.TheVariants.{Bad}
use Rattle.values.specs.declared.Token.{Token}
use Rattle.values.specs.declared.Power.{Power}
use Rattle.values.specs.declared.Power.TheVariants.{None, Wrong, Of}
use Rattle.values.specs.Number.{is_digit, digits, value, token, sign_len, point_len, power_of, power, power_at, whole_of, real_of, by_power, finish, number_of}

digits-length : (l : List ℕ) → length (digits l) ≤ length l
digits-length [] = omega arith
digits-length (c ∷ cs) = pick (is_digit c) (digits-length cs)
  where
    pick : (b : Bool) → length (digits cs) ≤ length cs → length (cond b (c ∷ digits cs) []) ≤ suc (length cs)
    pick true h = omega arith
    pick false h = omega arith

module _ (t : List ℕ) where
  -- a character that is not 0 stands in the text
  pub inside : (i : ℕ) → 0 < get_or t i 0 → i < length t
  inside i h = pick (ltb i (length t)) refl
    where
      pick : (b : Bool) → ltb i (length t) ≡ b → i < length t
      pick true e = ltb-true i (length t) e
      pick false e = let z = get_or-eq_default t 0 (ltb-false i (length t) e) in omega arith

  sign_in : (i : ℕ) → i ≤ length t → i + sign_len (get_or t i 0) ≤ length t
  sign_in i h = pick (eqb (get_or t i 0) 43) (eqb (get_or t i 0) 45) refl refl
    where
      pick : (a b : Bool) → eqb (get_or t i 0) 43 ≡ a → eqb (get_or t i 0) 45 ≡ b → i + cond (a || b) 1 0 ≤ length t
      pick true b e f = let q = eqb-true (get_or t i 0) 43 e in omega (arith, inside i (omega arith))
      pick false true e f = let q = eqb-true (get_or t i 0) 45 f in omega (arith, inside i (omega arith))
      pick false false e f = omega arith

  point_in : (i : ℕ) → i ≤ length t → i + point_len (get_or t i 0) ≤ length t
  point_in i h = pick (eqb (get_or t i 0) 46) refl
    where
      pick : (b : Bool) → eqb (get_or t i 0) 46 ≡ b → i + cond b 1 0 ≤ length t
      pick true e = let q = eqb-true (get_or t i 0) 46 e in omega (arith, inside i (omega arith))
      pick false e = omega arith

  digits_in_lem : (i : ℕ) → i ≤ length t → i + length (digits (drop i t)) ≤ length t
  digits_in_lem i h = omega (arith, digits-length (drop i t), length-drop i t)

  -- an exponent that is there ends within the text, and behind where it starts
  Ends : ℕ → Power → Type 0
  Ends i None = Unit {0}
  Ends i (Wrong at) = at ≤ length t
  Ends i (Of up down double last) = (i < last) × (last ≤ length t)

  power-of : (i : ℕ) (neg : Bool) (n x : ℕ) (double : Bool) (from last : ℕ) → i < last → last ≤ length t → from + n ≤ last → Ends i (power_of neg n x double from last)
  unfolding Ends
  power-of i neg n x double from last a b h = pick (leb 1 n && leb n 3) neg
    where
      pick : (c d : Bool) → Ends i (cond c (cond d (Of 0 x double last) (Of x 0 double last)) (Wrong (from + min n 3)))
      pick true true = (a, b)
      pick true false = (a, b)
      pick false d = omega arith

  power_in : (i : ℕ) (double : Bool) → i < length t → Ends i (power t (i + 1) double)
  unfolding power
  power_in i double h =
      let a = sign_in (i + 1) (omega arith) in
      let b = digits_in_lem (i + 1 + sign_len (get_or t (i + 1) 0)) a in
      let ds = digits (drop (i + 1 + sign_len (get_or t (i + 1) 0)) t) in
      power-of i (eqb (get_or t (i + 1) 0) 45) (length ds) (value 0 ds) double (i + 1 + sign_len (get_or t (i + 1) 0)) (i + 1 + sign_len (get_or t (i + 1) 0) + length ds) (omega arith) b (omega arith)

  power_at_lem : (i : ℕ) → Ends i (power_at t i)
  unfolding power_at Ends
  power_at_lem i = pick (eqb (get_or t i 0) 69) (eqb (get_or t i 0) 68) refl refl
    where
      pick : (a b : Bool) → eqb (get_or t i 0) 69 ≡ a → eqb (get_or t i 0) 68 ≡ b → Ends i (cond a (power t (i + 1) false) (cond b (power t (i + 1) true) None))
      pick true b e f = let q = eqb-true (get_or t i 0) 69 e in power_in i false (inside i (omega arith))
      pick false true e f = let q = eqb-true (get_or t i 0) 68 f in power_in i true (inside i (omega arith))
      pick false false e f = tt

  finish_in : (x : Power) (neg : Bool) (v n f p end : ℕ) → Ends end x → n ≤ end → end ≤ length t
      → ((finish x neg v n f p end).len ≤ length t) × (((finish x neg v n f p end).number ≡ Bad → ⊥) → 0 < (finish x neg v n f p end).len)
  unfolding Ends
  finish_in x neg v n f p end h k l = pick (eqb n 0) refl x h
    where
      Good : Token → Type 0
      Good r = (r.len ≤ length t) × ((r.number ≡ Bad → ⊥) → 0 < r.len)

      pick : (b : Bool) → eqb n 0 ≡ b → (x : Power) → Ends end x → Good (cond b (token Bad end) (by_power x neg v n f p end))
      pick true e x h = (l, λ g. absurd (g refl))
      pick false e None h = let q = eqb-false n 0 e in pick2 (eqb p 0)
        where
          pick2 : (b : Bool) → Good (cond b (whole_of neg v end) (real_of neg v n 0 f false end))
          pick2 true = (l, λ g. omega (arith, eqb-false n 0 e))
          pick2 false = (l, λ g. omega (arith, eqb-false n 0 e))
      pick false e (Wrong at) h = (h, λ g. absurd (g refl))
      pick false e (Of up down double last) h = (h.1, λ g. omega arith)

  -- a number ends within the text; and one that is not wrong has a character at least
  pub ends : ((number_of t).len ≤ length t) × (((number_of t).number ≡ Bad → ⊥) → 0 < (number_of t).len)
  unfolding number_of
  ends =
      let a = sign_len (get_or t 0 0) in
      let n = length (digits (drop a t)) in
      let p = point_len (get_or t (a + n) 0) in
      let i1 = sign_in 0 (omega arith) in
      let i2 = digits_in_lem a (omega arith) in
      let i3 = point_in (a + n) i2 in
      let i4 = digits_in_lem (a + n + p) i3 in
      let f = length (digits (drop (a + n + p) t)) in
      let end = a + (n + f) + p in
      finish_in (power_at t end) (eqb (get_or t 0 0) 45) (value 0 (digits (drop a t) ++ digits (drop (a + n + p) t))) (n + f) f p end (power_at_lem end) (omega arith) (omega arith)

pub number_in : (t : List ℕ) {r : Token} → r ≡ number_of t → r.len ≤ length t
number_in t e = rw e (ends t).0
