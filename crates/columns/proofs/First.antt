-- The first that fails a test: its equations, its bounds, what it says of those before it, and the laws of a loop that looks for it.
use mathlib.Core.Path.{◌≡◌, refl, sym, ap, ◌∙◌}
use mathlib.Core.Bool.{Bool, true, false}
use Prim.Native.Nat.{ℕ, zero, suc, ◌+◌, ◌-◌, ◌≤◌, ◌<◌}
use native.Mathlib.Nat.{add-zero}
use native.Mathlib.Omega.{arith}
use native.Mathlib.Decide.{ℕ_discrete}
use lib.ListN.{length, get_or}
use Rattle.columns.specs.First.{first_not, up_from}

module _ (test : ℕ → Bool) where
  pub first_yes : (i n : ℕ) → test i ≡ true → first_not test i (suc n) ≡ first_not test (i + 1) n
  unfolding first_not
  first_yes i n e = simp (first_not, e)

  pub first_no : (i n : ℕ) → test i ≡ false → first_not test i (suc n) ≡ i
  unfolding first_not
  first_no i n e = simp (first_not, e)

  pub first_ge : (n i : ℕ) → i ≤ first_not test i n
  unfolding first_not
  first_ge zero i = omega arith
  first_ge (suc n) i = pick (test i) refl (first_ge n (i + 1))
    where
      pick : (b : Bool) → test i ≡ b → i + 1 ≤ first_not test (i + 1) n → i ≤ first_not test i (suc n)
      pick true e h = rw (first_yes i n e) (omega arith)
      pick false e h = rw (first_no i n e) (omega arith)

  -- each before it passes
  pub before_first : (n i j : ℕ) → i ≤ j → j < first_not test i n → test j ≡ true
  unfolding first_not
  before_first zero i j lo hi = absurd (omega arith)
  before_first (suc n) i j lo hi = pick (test i) refl (before_first n (i + 1) j)
    where
      pick : (b : Bool) → test i ≡ b → (i + 1 ≤ j → j < first_not test (i + 1) n → test j ≡ true) → test j ≡ true
      pick true e ih = elim (ℕ_discrete j i) [ yes x ↦ rw x e | no x ↦ ih (omega arith) (omega (arith, rw (first_yes i n e) at hi)) ]
      pick false e ih = absurd (omega (arith, rw (first_no i n e) at hi))

  -- where none fails, each passes
  pub none_fails : (n i : ℕ) → i + n ≤ first_not test i n → (j : ℕ) → i ≤ j → j < i + n → test j ≡ true
  none_fails n i h j lo hi = before_first n i j lo (omega arith)

  -- where each passes, none fails
  pub all_pass : (n i : ℕ) → ((j : ℕ) → i ≤ j → j < i + n → test j ≡ true) → first_not test i n ≡ i + n
  unfolding first_not
  all_pass zero i h = sym (add-zero i)
  all_pass (suc n) i h = first_yes i n (h i (omega arith) (omega arith)) ∙ all_pass n (i + 1) (λ j lo hi. h j (omega arith) (omega arith)) ∙ omega arith

-- two tests that agree have one first
pub first_same : (test tset : ℕ → Bool) (n i : ℕ) → ((j : ℕ) → i ≤ j → j < i + n → test j ≡ tset j) → first_not test i n ≡ first_not tset i n
unfolding first_not
first_same test tset zero i h = refl
first_same test tset (suc n) i h = rw (h i (omega arith) (omega arith), first_same test tset n (i + 1) (λ j lo hi. h j (omega arith) (omega arith)))

-- ---- a loop from i up to e: r is the answer

module _ (test : ℕ → Bool) (i e r : ℕ) (inv : first_not test i (e - i) ≡ r) where
  one_more : i < e → e - i ≡ suc (e - (i + 1))
  one_more h = omega arith

  pub first_on : i < e → test i ≡ true → first_not test (i + 1) (e - (i + 1)) ≡ r
  first_on h t = sym (first_yes test i (e - (i + 1)) t) ∙ (rw (one_more h) at inv)

  pub first_here : i < e → test i ≡ false → i ≡ r
  first_here h t = sym (first_no test i (e - (i + 1)) t) ∙ (rw (one_more h) at inv)

  pub first_end : i ≤ e → e ≤ i → i ≡ r
  unfolding first_not
  first_end h k =
      let z : e - i ≡ 0 = omega arith in
      rw z at inv

-- the same where the test is a call's answer
module _ (test : ℕ → Bool) (i e r : ℕ) (x : Bool) (inv : first_not test i (e - i) ≡ r) (h : i < e) (ex : x ≡ test i) where
  pub call_on : x ≡ true → first_not test (i + 1) (e - (i + 1)) ≡ r
  call_on t = first_on test i e r inv h (sym ex ∙ t)

  pub call_here : x ≡ false → i ≡ r
  call_here t = first_here test i e r inv h (sym ex ∙ t)

pub from_start : (test : ℕ → Bool) (i n : ℕ) → first_not test i (i + n - i) ≡ first_not test i n
from_start test i n =
    let e : i + n - i ≡ n = omega arith in
    rw e

-- ---- numbers one after another

pub length_up_from : (n i : ℕ) → length (up_from i n) ≡ n
unfolding up_from
length_up_from zero i = refl
length_up_from (suc n) i = ap suc (length_up_from n (i + 1))

pub get_d_up_from : (n i j : ℕ) → j < n → get_or (up_from i n) j 0 ≡ i + j
unfolding up_from
get_d_up_from zero i j h = absurd (omega arith)
get_d_up_from (suc n) i zero h = sym (add-zero i)
get_d_up_from (suc n) i (suc j) h = get_d_up_from n (i + 1) j (omega arith) ∙ omega arith
