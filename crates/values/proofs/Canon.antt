-- What is read keeps its limits: a number that is read is fine, and so is what a string's head promises. Assumes nothing.
use mathlib.Core.Path.{◌≡◌, refl}
use mathlib.Core.Bool.{Bool, true, false, cond, ◌&&◌}
use mathlib.Core.List.{List, ◌++◌}
use Prim.Native.Nat.{ℕ, zero, suc, ◌+◌, ◌-◌, ◌/◌, ◌%◌, ◌^◌, ◌≤◌, ◌<◌}
use native.Mathlib.Nat.{pow-suc, div-one, mul_comm, div-div-eq-div-mul, zero-div}
use native.Mathlib.Omega.{arith}
use lib.ListN.{length, get_or, drop, length-append}
use lib.Dec.{ltb, leb, eqb}
use borrow.Author.Tests.{ltb-true, leb-true, eqb-true, eqb-false}
use Rattle.values.specs.declared.Number.{Number}
use Rattle.values.specs.declared.Number.TheVariants.{Whole, Real, Beyond, Bad}
use Rattle.values.specs.declared.Power.{Power}
use Rattle.values.specs.declared.Power.TheVariants.{None, Wrong, Of}
use Rattle.values.specs.Number.{digits, value, tens, token, sign_len, point_len, power_at, whole_of, normal, real_of, by_power, finish, number_of}
use Rattle.values.specs.declared.Head.{Head}
use Rattle.values.specs.declared.Head.TheVariants.{Count, Plain}
use Rattle.values.specs.Head.{head_of}
use Rattle.values.specs.Value.{Item, whole, real, Normal, nought, times, over, Fine, fine_whole, fine_real}
use Rattle.values.proofs.Laws.{three}
use Rattle.values.proofs.Digits.{ds_append, digits_ds, value-below}

-- what is left of v has no zero at its end
tens_all : (n v : ℕ) → v < 10 ^ n → (v ≡ 0 → ⊥) → v / 10 ^ tens n v % 10 ≡ 0 → ⊥
tens_all zero v h z q = z (omega arith)
tens_all (suc n) v h z q = pick (eqb (v % 10) 0) refl (tens_all n (v / 10)) q
  where
    pick : (b : Bool) → eqb (v % 10) 0 ≡ b → (v / 10 < 10 ^ n → (v / 10 ≡ 0 → ⊥) → v / 10 / 10 ^ tens n (v / 10) % 10 ≡ 0 → ⊥)
        → v / 10 ^ (cond b (suc (tens n (v / 10))) 0) % 10 ≡ 0 → ⊥
    pick true e ih q = ih (omega (arith, pow-suc 10 n)) (λ w. z (omega (arith, eqb-true (v % 10) 0 e))) (rw (div-div-eq-div-mul v 10 (10 ^ tens n (v / 10)), mul_comm 10 (10 ^ tens n (v / 10)), ← pow-suc 10 (tens n (v / 10))) q)
    pick false e ih q = eqb-false (v % 10) 0 e (rw div-one at q)

-- an integer is within its limits, and 0 has no sign; a real is normal
abbrev pub Canon : Number → Type 0
Canon (Whole neg v) = (v ≤ 2147483647) × (v ≡ 0 → neg ≡ false)
Canon (Real neg m eneg e double) = Normal neg m eneg e
Canon Beyond = Unit {0}
Canon Bad = Unit {0}

normal_canon : (neg : Bool) (m up down : ℕ) (double : Bool) (len : ℕ) → ((m ≡ 0 → ⊥) → m % 10 ≡ 0 → ⊥) → Canon (normal neg m up down double len).number
normal_canon neg m up down double len k = pick (eqb m 0) refl (ltb m (10 ^ 17)) refl (leb E 400) refl (ltb up down) refl
  where
    E : ℕ
    E = (up - down) + (down - up)

    pick : (a : Bool) → eqb m 0 ≡ a → (b : Bool) → ltb m (10 ^ 17) ≡ b → (c : Bool) → leb E 400 ≡ c → (o : Bool) → ltb up down ≡ o
        → Canon (cond a (Real false 0 false 0 double) (cond (b && c) (Real neg m o E double) Beyond))
    pick true _ b _ c _ o _ = nought
    pick false ea true eb true ec true eo = over neg m E (k (eqb-false m 0 ea)) (ltb-true m (10 ^ 17) eb) (omega (arith, ltb-true up down eo)) (leb-true E 400 ec)
    pick false ea true eb true ec false eo = times neg m E (k (eqb-false m 0 ea)) (ltb-true m (10 ^ 17) eb) (leb-true E 400 ec)
    pick false _ true _ false _ o _ = tt
    pick false _ false _ c _ o _ = tt

module _ (v count : ℕ) (h : v < 10 ^ count) where
  real_canon : (neg : Bool) (up down : ℕ) (double : Bool) (len : ℕ) → Canon (real_of neg v count up down double len).number
  real_canon neg up down double len = normal_canon neg (v / 10 ^ tens count v) (tens count v + up) down double len (λ m. tens_all count v h (λ e. m (rw (e, zero-div))))

  finish_canon : (x : Power) (neg : Bool) (frac p end : ℕ) → Canon (finish x neg v count frac p end).number
  finish_canon x neg frac p end = pick (eqb count 0) x
    where
      small : (b : Bool) → leb v 2147483647 ≡ b → Canon (cond b (Whole (cond (eqb v 0) false neg) v) Beyond)
      small true e = (leb-true v 2147483647 e, λ z. rw z)
      small false e = tt

      point : (b : Bool) → Canon (cond b (whole_of neg v end) (real_of neg v count 0 frac false end)).number
      point true = small (leb v 2147483647) refl
      point false = real_canon neg 0 frac false end

      pick : (b : Bool) (x : Power) → Canon (cond b (token Bad end) (by_power x neg v count frac p end)).number
      pick true x = tt
      pick false None = point (eqb p 0)
      pick false (Wrong at) = tt
      pick false (Of up down double last) = real_canon neg up (frac + down) double last

pub canon : (t : List ℕ) → Canon (number_of t).number
unfolding number_of
canon t =
    let a = sign_len (get_or t 0 0) in
    let x = digits (drop a t) in
    let p = point_len (get_or t (a + length x) 0) in
    let y = digits (drop (a + length x + p) t) in
    let end = a + (length x + length y) + p in
    let h : value 0 (x ++ y) < 10 ^ (length x + length y) = rw (length-append x y) at (value-below (ds_append (digits_ds (drop a t)) (digits_ds (drop (a + length x + p) t)))) in
    finish_canon (value 0 (x ++ y)) (length x + length y) h (power_at t end) (eqb (get_or t 0 0) 45) (length y) p end

-- ---- as values

-- the number k is the value v by itself
pub data Numeral : Item → Number → Type 0 where
  is_whole : {neg : Bool} {size : ℕ} → Numeral (whole neg size) (Whole neg size)
  is_real : {neg : Bool} {m : ℕ} {eneg : Bool} {e : ℕ} {double : Bool} → Numeral (real neg m eneg e double) (Real neg m eneg e double)

canon_fine : {v : Item} {k : Number} → Numeral v k → Canon k → Fine v
canon_fine is_whole c = fine_whole _ _ c.0 c.1
canon_fine is_real c = fine_real c _

-- what is read as a number is a fine value
pub read_fine : (t : List ℕ) {v : Item} {k : Number} → (number_of t).number ≡ k → Numeral v k → Fine v
read_fine t e n = canon_fine n (rw e at (canon t))

-- a count that is read is one of 1..999, and behind it stands H
abbrev pub FineHead : Head → Type 0
FineHead (Count n len) = (1 ≤ n) × (n ≤ 999)
FineHead (Plain k) = Canon k.number

pub head_fine : (l : List ℕ) → FineHead (head_of l)
unfolding head_of
head_fine l = pick (eqb (get_or l (length (digits l)) 0) 72) (leb (length (digits l)) 3) (leb 1 (value 0 (digits l))) refl refl
  where
    pick : (a b c : Bool) → leb (length (digits l)) 3 ≡ b → leb 1 (value 0 (digits l)) ≡ c
        → FineHead (cond (a && (b && c)) (Count (value 0 (digits l)) (length (digits l) + 1)) (Plain (number_of l)))
    pick true true true e f =
        let n = length (digits l) in
        (leb-true 1 (value 0 (digits l)) f, omega (arith, three (value 0 (digits l)) n (value-below (digits_ds l)) (leb-true n 3 e)))
    pick true true false e f = canon l
    pick true false c e f = canon l
    pick false b c e f = canon l
