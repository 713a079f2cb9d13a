-- What is read of a number is worth what its spelling says: the zeros that are stripped go to the exponent. Assumes nothing.
use mathlib.Core.Path.{◌≡◌, refl, sym, ap, ◌∙◌}
use mathlib.Core.Bool.{Bool, true, false, cond, ◌&&◌}
use Prim.Native.Nat.{ℕ, zero, suc, ◌+◌, ◌-◌, ◌*◌, ◌/◌, ◌%◌, ◌^◌, ◌≤◌, ◌<◌}
use native.Mathlib.Nat.{pow-suc, mul-one, zero-mul, mul_assoc, mul_comm, div-one, div-div-eq-div-mul}
use native.Mathlib.Omega.{arith}
use lib.Pow.{pow-add}
use lib.ListN.{length, get_or}
use lib.Dec.{ltb, leb, eqb}
use borrow.Author.Tests.{ltb-true, ltb-false, eqb-true}
use Rattle.values.specs.declared.Number.TheVariants.{Whole, Real, Beyond, Bad}
use Rattle.values.specs.declared.Power.{Power}
use Rattle.values.specs.declared.Power.TheVariants.{None, Wrong, Of}
use Rattle.values.specs.Number.{tens, token, sign_len, point_len, whole_of, normal, real_of, by_power, finish, number_of}
use Rattle.values.specs.Worth.{minus_in, before, point_place, behind, digits_in, exponent_in, up, down, is_double, Worth, Says, NoDigitLost}

-- what is left of v, with its zeros again, is v
tens_whole : (n v : ℕ) → v / 10 ^ tens n v * 10 ^ tens n v ≡ v
tens_whole zero v = rw (div-one v) (mul-one v)
tens_whole (suc n) v = pick (eqb (v % 10) 0) refl (tens_whole n (v / 10))
  where
    pick : (b : Bool) → eqb (v % 10) 0 ≡ b → v / 10 / 10 ^ tens n (v / 10) * 10 ^ tens n (v / 10) ≡ v / 10
        → v / 10 ^ (cond b (suc (tens n (v / 10))) 0) * 10 ^ (cond b (suc (tens n (v / 10))) 0) ≡ v
    pick true e ih =
        let z = 10 ^ tens n (v / 10) in
        let a : v / (z * 10) * (z * 10) ≡ v / (10 * z) * z * 10 = rw (mul_comm z 10) (ap (λ (x : ℕ). v / (10 * z) * x) (mul_comm 10 z) ∙ sym (mul_assoc (v / (10 * z)) z 10)) in
        let b : v / (10 * z) * z ≡ v / 10 = rw (← div-div-eq-div-mul v 10 z) ih in
        rw (pow-suc 10 (tens n (v / 10))) (a ∙ ap (λ (x : ℕ). x * 10) b ∙ omega (arith, eqb-true (v % 10) 0 e))
    pick false e ih = rw (div-one v) (mul-one v)

-- ten to a sum, behind a factor
module _ (m : ℕ) where
  three : (a b c : ℕ) → m * 10 ^ a * 10 ^ b * 10 ^ c ≡ m * 10 ^ (a + b + c)
  three a b c = rw (pow-add 10 (a + b) c, pow-add 10 a b) (rw (mul_assoc m (10 ^ a) (10 ^ b), mul_assoc m (10 ^ a * 10 ^ b) (10 ^ c)))

-- m with z zeros, times ten to u over ten to d: m, and an exponent of what is left
module _ (v m z u d : ℕ) (w : m * 10 ^ z ≡ v) where
  over : z + u < d → Worth v u d m true ((z + u - d) + (d - (z + u)))
  over h =
      let e : z + u + ((z + u - d) + (d - (z + u))) ≡ d = omega arith in
      ap (λ (x : ℕ). x * 10 ^ u * 10 ^ ((z + u - d) + (d - (z + u)))) (sym w) ∙ three m z u ((z + u - d) + (d - (z + u))) ∙ ap (λ (x : ℕ). m * 10 ^ x) e ∙ ap (λ (x : ℕ). x * 10 ^ d) (sym (mul-one m))

  times : d ≤ z + u → Worth v u d m false ((z + u - d) + (d - (z + u)))
  times h =
      let e : z + u + 0 ≡ 0 + ((z + u - d) + (d - (z + u))) + d = omega arith in
      ap (λ (x : ℕ). x * 10 ^ u * 10 ^ 0) (sym w) ∙ three m z u 0 ∙ ap (λ (x : ℕ). m * 10 ^ x) e ∙ sym (three m 0 ((z + u - d) + (d - (z + u))) d)
      ∙ ap (λ (x : ℕ). x * 10 ^ ((z + u - d) + (d - (z + u))) * 10 ^ d) (mul-one m)

  nothing : m ≡ 0 → Worth v u d 0 false 0
  nothing e =
      let q : v ≡ 0 = sym w ∙ rw e (zero-mul (10 ^ z)) in
      rw (q, zero-mul (10 ^ u), zero-mul (10 ^ 0), zero-mul (10 ^ d))

-- ---- a number is finished

-- the parts of a text t: its digits v, of which frac stand behind the point, its sign and its exponent x
module _ (neg : Bool) (v frac : ℕ) (x : Power) where
  is_normal_lem : (m z u d : ℕ) (double : Bool) (len : ℕ) → m * 10 ^ z ≡ v → u ≡ up x → d ≡ frac + down x → double ≡ is_double x
      → Says neg v frac x (normal neg m (z + u) d double len).number
  is_normal_lem m z u d double len w eu ed k = pick (eqb m 0) refl (ltb m (10 ^ 17) && leb E 400) (ltb (z + u) d) refl
    where
      E : ℕ
      E = (z + u - d) + (d - (z + u))

      at : (m' : ℕ) (eneg : Bool) (e : ℕ) → Worth v u d m' eneg e → Worth v (up x) (frac + down x) m' eneg e
      at m' eneg e h = rw (eu, ed) at h

      pick : (a : Bool) → eqb m 0 ≡ a → (b o : Bool) → ltb (z + u) d ≡ o → Says neg v frac x (cond a (Real false 0 false 0 double) (cond b (Real neg m o E double) Beyond))
      pick true e b o q = (at 0 false 0 (nothing v m z u d w (eqb-true m 0 e)), (λ n. absurd (n refl), k))
      pick false e true true q = (at m true E (over v m z u d w (ltb-true (z + u) d q)), (λ n. refl, k))
      pick false e true false q = (at m false E (times v m z u d w (ltb-false (z + u) d q)), (λ n. refl, k))
      pick false e false o q = tt

  is_whole : (len : ℕ) → Says neg v frac x (whole_of neg v len).number
  is_whole len = pick (leb v 2147483647) (eqb v 0) refl
    where
      pick : (a b : Bool) → eqb v 0 ≡ b → Says neg v frac x (cond a (Whole (cond b false neg) v) Beyond)
      pick true true e = (refl, λ n. absurd (n (eqb-true v 0 e)))
      pick true false e = (refl, λ n. refl)
      pick false b e = tt

module _ (neg : Bool) (v count frac p end : ℕ) where
  is_real : (x : Power) (u d : ℕ) (double : Bool) (len : ℕ) → u ≡ up x → d ≡ frac + down x → double ≡ is_double x
      → Says neg v frac x (real_of neg v count u d double len).number
  is_real x u d double len = is_normal_lem neg v frac x (v / 10 ^ tens count v) (tens count v) u d double len (tens_whole count v)

  is_finished : (x : Power) → Says neg v frac x (finish x neg v count frac p end).number
  is_finished x = some (eqb count 0) x
    where
      point : (b : Bool) → Says neg v frac None (cond b (whole_of neg v end) (real_of neg v count 0 frac false end)).number
      point true = is_whole neg v frac None end
      point false = is_real None 0 frac false end refl (omega arith) refl

      some : (b : Bool) (x : Power) → Says neg v frac x (cond b (token Bad end) (by_power x neg v count frac p end)).number
      some true x = tt
      some false None = point (eqb p 0)
      some false (Wrong at) = tt
      some false (Of u d double last) = is_real (Of u d double last) u (frac + d) double last refl refl refl

-- ---- of every text

pub no_digit_lost : NoDigitLost
unfolding number_of
no_digit_lost t =
    is_finished (minus_in t) (digits_in t) (length (before t) + length (behind t)) (length (behind t)) (point_len (get_or t (point_place t) 0))
    (sign_len (get_or t 0 0) + (length (before t) + length (behind t)) + point_len (get_or t (point_place t) 0)) (exponent_in t)
