-- A buffer that was filled and is looked at; a part of one that is long enough has the length that was asked for.
use mathlib.Core.Path.{◌≡◌, refl, sym, ap, ◌∙◌}
use mathlib.Core.Bool.{Bool, true, false}
use mathlib.Core.List.{List, [], ◌∷◌}
use Prim.Native.Nat.{ℕ, zero, suc, ◌+◌, ◌-◌, ◌≤◌, ◌<◌}
use native.Mathlib.Nat.{sub-zero}
use native.Mathlib.Omega.{arith}
use lib.ListN.{length, get_or, take, drop, drop_of_length-le}
use lib.Seq.{length-take-le, drop-cons}
use borrow.Author.Tests.{eq-eqb, ne_eqb}
use Rattle.std.specs.Prelude.{◌==◌}
use Rattle.std.specs.List.{list_all}
use Rattle.vectors.specs.Passing.{filler, ready, untouched}

-- ---- parts

pub part : (n : ℕ) (xs : List ℕ) → n ≤ length xs → n ≡ length (take n xs)
part n xs h = sym (length-take-le n xs h)

-- one byte less, of a buffer that was filled
pub part_less : (n : ℕ) (xs ys : List ℕ) → n ≤ length ys → length xs ≡ length ys → n - 1 ≡ length (take (n - 1) xs)
part_less n xs ys h e = part (n - 1) xs (omega arith)

pub ruleset parts = (part, part_less)

-- a part of a filled buffer, and what stands behind it
pub take-ready : (k n : ℕ) → k ≤ n → take k (ready n) ≡ ready k
take-ready zero n h = refl
take-ready (suc k) zero h = absurd (omega arith)
take-ready (suc k) (suc n) h = ap (λ (l : List ℕ). filler ∷ l) (take-ready k n (omega arith))

pub drop-ready : (k n : ℕ) → drop k (ready n) ≡ ready (n - k)
drop-ready zero n = rw sub-zero
drop-ready (suc k) zero =
    let e : 0 - suc k ≡ 0 = omega arith in
    rw e
drop-ready (suc k) (suc n) =
    let e : suc n - suc k ≡ n - k = omega arith in
    rw e (drop-ready k n)

-- ---- untouched: f is the answer

module _ (f : Bool) (s : List ℕ) (i : ℕ) (inv : untouched (drop i s) ≡ f) where
  module _ (lt : i < length s) where
    next : drop i s ≡ get_or s i 0 ∷ drop (i + 1) s
    next =
        let e : suc i ≡ i + 1 = omega arith in
        drop-cons s i 0 lt ∙ ap (λ (j : ℕ). get_or s i 0 ∷ drop j s) e

    pub untouched-on : get_or s i 0 ≡ filler → untouched (drop (i + 1) s) ≡ f
    unfolding untouched
    untouched-on h = simp (untouched, eq-eqb _ _ h) at (rw next at inv)

    pub untouched_no : (get_or s i 0 ≡ filler → ⊥) → false ≡ f
    unfolding untouched
    untouched_no h = simp (untouched, ne_eqb _ _ h) at (rw next at inv)

  pub untouched-end : length s ≤ i → true ≡ f
  unfolding untouched
  untouched-end h = rw (drop_of_length-le s {i = i} h) at inv

pub ruleset looking = (untouched-on, untouched_no, untouched-end)

-- what `all` answers of the bytes

pub all_untouched : (s : List ℕ) → list_all (λ b. b == filler) s ≡ untouched s
unfolding untouched
all_untouched [] = refl
all_untouched (b ∷ s) = rw (all_untouched s)
