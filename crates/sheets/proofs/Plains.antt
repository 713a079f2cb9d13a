-- What the functions that read the numbers of a sheet are asked.
use mathlib.Core.Path.{◌≡◌, refl, ap, ◌∙◌}
use mathlib.Core.Bool.{true, false, cond, not}
use mathlib.Core.List.{List, [], ◌∷◌}
use Prim.Native.Nat.{ℕ, suc, ◌+◌, ◌-◌, ◌*◌, ◌≤◌, ◌<◌}
use native.Mathlib.Numerals.{add-one, one-add}
use native.Mathlib.Omega.{arith}
use lib.ListN.{length, get_or, take, drop, get_or-eq_default, drop_of_length-le}
use lib.Dec.{eqb, ltb}
use lib.Seq.{drop-cons, drop-drop, take-take}
use borrow.Author.Tests.{le-leb, lt-leb, lt-ltb, le-ltb, eq-eqb, ne_eqb}
use Rattle.std.specs.Prelude.{Some, None}
use Rattle.std.specs.List.{position_or_len}
use Rattle.std.proofs.lemmas.Bool.Decides.{nat_tests}
use Rattle.std.proofs.lemmas.List.Sums.{prefix_len-le-length}
use Rattle.columns.specs.declared.Signed.{Signed}
use Rattle.columns.specs.Columns.{columns}
use Rattle.columns.specs.Format.{most_integer}
use Rattle.columns.proofs.Columns.{column, columns-none, length-columns, drop-take}
use Rattle.sheets.specs.Plain.{sized}
use Rattle.sheets.specs.Line.{run}
use Rattle.sheets.specs.Folds.{misspelt, unread, digit_after, size_from, plain_fold, minus_of, signed_fold, status_from, status_fold, entry_fold}

-- columns of columns
pub columns-take : (s : List ℕ) (i e end : ℕ) → i ≤ e → e ≤ end → take (e - i) (columns s i end) ≡ columns s i e
unfolding columns
columns-take s i e end h k = take-take (e - i) (end - i) (drop i s) (omega arith)

pub columns-drop : (s : List ℕ) (i k end : ℕ) → drop k (columns s i end) ≡ columns s (i + k) end
unfolding columns
columns-drop s i k end =
    let e : end - i - k ≡ end - (i + k) = omega arith in
    drop-take k (end - i) (drop i s) ∙ rw (drop-drop, e)

-- ---- one more byte of a number
module _ (n b : ℕ) where
  pub step_low : b < 48 → misspelt ≡ digit_after n b
  unfolding digit_after
  step_low h = simp (lt-leb _ _ h)

  module _ (lo : 48 ≤ b) where
    pub step_high : 57 < b → misspelt ≡ digit_after n b
    unfolding digit_after
    step_high h = simp (le-leb _ _ lo, lt-leb _ _ h)

    module _ (hi : b ≤ 57) where
      pub step_first : (r : ℕ) → r ≡ b - 48 → n ≡ unread → r ≡ digit_after n b
      unfolding digit_after
      step_first r e h = rw e (simp (le-leb _ _ lo, le-leb _ _ hi, eq-eqb _ _ h))

      pub step-nought : n ≡ 0 → misspelt ≡ digit_after n b
      unfolding digit_after
      step-nought h = rw h (simp (le-leb _ _ lo, le-leb _ _ hi))

      module _ (d : ℕ) (e : d ≡ b - 48) (some : n ≡ unread → ⊥) (pos : n ≡ 0 → ⊥) where
        pub step_big : most_integer < n * 10 + d → misspelt ≡ digit_after n b
        unfolding digit_after
        step_big h = simp (le-leb _ _ lo, le-leb _ _ hi, ne_eqb _ _ some, lt-ltb 0 n (omega arith), ← e, lt-leb _ _ h)

        pub step-more : n * 10 + d ≤ most_integer → n * 10 + d ≡ digit_after n b
        unfolding digit_after
        step-more h = simp (le-leb _ _ lo, le-leb _ _ hi, ne_eqb _ _ some, lt-ltb 0 n (omega arith), ← e, le-leb _ _ h)

pub ruleset step = (step_low, step_high, step_first, step-nought, step_big, step-more)

-- ---- a number before byte k of a text: f is the answer
module _ (f : ℕ) (t : List ℕ) (k n : ℕ) (inv : size_from n (drop k t) ≡ f) where
  pub size_more : (m : ℕ) → k < length t → m ≡ digit_after n (get_or t k 0) → size_from m (drop (k + 1) t) ≡ f
  unfolding size_from
  size_more m lt e = rw (e, add-one) (rw (drop-cons t k 0 lt) at inv)

  pub size_end : length t ≤ k → n ≡ f
  unfolding size_from
  size_end le = rw (drop_of_length-le t {i = k} le) at inv

pub ruleset sizes = (size_more, size_end)

pub minus-nought : (n : ℕ) → n ≡ 0 → sized true misspelt ≡ minus_of n
unfolding minus_of
minus-nought n h = rw h

pub minus_some : (n : ℕ) → (n ≡ 0 → ⊥) → sized true n ≡ minus_of n
unfolding minus_of
minus_some n h = simp (ne_eqb _ _ h)

pub minus_low : (n : ℕ) → n ≤ 0 → sized true misspelt ≡ minus_of n
minus_low n h = minus-nought n (omega arith)

pub minus_high : (n : ℕ) → 0 < n → sized true n ≡ minus_of n
minus_high n h =
    let some : n ≡ 0 → ⊥ = omega arith in
    minus_some n some

pub first_byte : (s : List ℕ) (i end : ℕ) → i < end → end ≤ length s → get_or (columns s i end) 0 0 ≡ get_or s i 0
first_byte s i end lt le = rw (column s i end lt le)

-- a line of less than two bytes has no second
pub no_second : (s : List ℕ) (at end : ℕ) → at ≤ end → end ≤ length s → end - at < 2 → get_or (columns s at end) 1 0 ≡ 0
no_second s at end lo hi h = get_or-eq_default (columns s at end) 0 {n = 1} (rw (length-columns s at end lo hi) (omega arith))

pub signed-minus : (s : List ℕ) (i end n : ℕ) (r : Signed) → i < end → end ≤ length s → get_or s i 0 ≡ 45 → n ≡ plain_fold (columns s (i + 1) end) → r ≡ minus_of n
    → r ≡ signed_fold (columns s i end)
unfolding signed_fold
signed-minus s i end n r lt le h e p = p ∙ rw (e, column s i end lt le, h)

pub signed-plain : (s : List ℕ) (i end n : ℕ) → i < end → end ≤ length s → (get_or s i 0 ≡ 45 → ⊥) → n ≡ plain_fold (columns s i end) → sized false n ≡ signed_fold (columns s i end)
unfolding signed_fold
signed-plain s i end n lt le h e = rw (e, first_byte s i end lt le) (simp (ne_eqb _ _ h))

pub signed-none : (s : List ℕ) (i end : ℕ) → i ≤ end → end ≤ i → sized false unread ≡ signed_fold (columns s i end)
unfolding signed_fold size_from
signed-none s i end le ge =
    let e : i ≡ end = omega arith in
    rw (e, columns-none)

pub status_low : (n : ℕ) → n < 100000000 → sized false misspelt ≡ status_from n
unfolding status_from
status_low n h = simp (lt-ltb _ _ h)

pub status_some : (n : ℕ) → 100000000 ≤ n → n < 200000000 → sized false (n - 100000000) ≡ status_from n
unfolding status_from
status_some n l h = simp (le-ltb _ _ l, lt-ltb _ _ h)

pub status_high : (n : ℕ) → 100000000 ≤ n → 200000000 ≤ n → sized false misspelt ≡ status_from n
unfolding status_from
status_high n l h = simp (le-ltb _ _ l, le-ltb _ _ h)

pub num_status : (left n : ℕ) (f : List ℕ) (r : Signed) → left ≡ 3 → n ≡ size_from 1 f → r ≡ status_from n → r ≡ entry_fold left f
unfolding entry_fold status_fold
num_status left n f r h e p = p ∙ rw (e, h)

pub num_signed : (left : ℕ) (f : List ℕ) (r : Signed) → (left ≡ 3 → ⊥) → r ≡ signed_fold f → r ≡ entry_fold left f
unfolding entry_fold
num_signed left f r h e = simp (ne_eqb _ _ h) e

pub ruleset numbers = (minus_low, minus_high, signed-minus, signed-plain, signed-none, status_low, status_some, status_high, num_status, num_signed)

-- ---- the first of a byte
pub run-here : (c b : ℕ) (bs : List ℕ) → b ≡ c → run c (b ∷ bs) ≡ 0
unfolding run
run-here c b bs h = simp (run, eq-eqb _ _ h)

pub run_on : (c b : ℕ) (bs : List ℕ) → (b ≡ c → ⊥) → run c (b ∷ bs) ≡ suc (run c bs)
unfolding run
run_on c b bs h = simp (run, ne_eqb _ _ h)

-- as `position` says it
run_first : (c : ℕ) (t : List ℕ) → position_or_len (λ b. eqb b c) t ≡ run c t
unfolding run
run_first c [] = refl
run_first c (b ∷ bs) = elim (eqb b c) as (λ x. cond (not x) (1 + position_or_len (λ b. eqb b c) bs) 0 ≡ elim x [ true ↦ 0 | false ↦ suc (run c bs) ]) [
  | true ↦ refl
  | false ↦ one-add (position_or_len (λ b. eqb b c) bs) ∙ ap suc (run_first c bs)
]

-- what it found, with n the length of the text
pub run_found : (c : ℕ) (t : List ℕ) (k : ℕ) → Some k ≡ cond (ltb (position_or_len (λ b. eqb b c) t) (length t)) (Some (position_or_len (λ b. eqb b c) t)) None → k ≡ run c t
run_found c t k e = let h = run_first c t in grind (arith, nat_tests)

pub run_none : (c : ℕ) (t : List ℕ) → None ≡ cond (ltb (position_or_len (λ b. eqb b c) t) (length t)) (Some (position_or_len (λ b. eqb b c) t)) None → length t ≡ run c t
run_none c t e =
    let h = run_first c t in
    let l = prefix_len-le-length (λ b. not (eqb b c)) t in
    grind (arith, nat_tests)

end-at : {f : ℕ} (c : ℕ) (s : List ℕ) (end i : ℕ) → i + run c (columns s i end) ≡ f → i < end → end ≤ length s → get_or s i 0 ≡ c → i ≡ f
end-at c s end i inv lt le h = omega (arith, rw (column s i end lt le, run-here c _ _ h) at inv)

on-at : {f : ℕ} (c : ℕ) (s : List ℕ) (end i k : ℕ) → k ≡ i + 1 → i + run c (columns s i end) ≡ f → i < end → end ≤ length s → (get_or s i 0 ≡ c → ⊥) → k + run c (columns s k end) ≡ f
on-at c s end i k e inv lt le h = rw e (omega (arith, rw (column s i end lt le, run_on c _ _ h) at inv))

module _ (f c : ℕ) (s : List ℕ) (i end : ℕ) (inv : i + run c (columns s i end) ≡ f) where
  end-here : i < end → end ≤ length s → get_or s i 0 ≡ c → i ≡ f
  end-here lt le h = end-at c s end i inv lt le h

  end_on : i < end → end ≤ length s → (get_or s i 0 ≡ c → ⊥) → i + 1 + run c (columns s (i + 1) end) ≡ f
  end_on lt le h = on-at c s end i (i + 1) refl inv lt le h

  pub end_rest : {r : ℕ} → r ≡ i + run c (columns s i end) → r ≡ f
  end_rest e = e ∙ inv

  -- four bytes of one turn
  module _ (h : 4 ≤ end - i) (le : end ≤ length s) where
    pub end_0 : get_or s i 0 ≡ c → i ≡ f
    end_0 e = end-here (omega arith) le e

    module _ (n0 : get_or s i 0 ≡ c → ⊥) where
      on_1 : i + 1 + run c (columns s (i + 1) end) ≡ f
      on_1 = end_on (omega arith) le n0

      pub end_1 : get_or s (i + 1) 0 ≡ c → i + 1 ≡ f
      end_1 e = end-at c s end (i + 1) on_1 (omega arith) le e

      module _ (n1 : get_or s (i + 1) 0 ≡ c → ⊥) where
        on_2 : i + 2 + run c (columns s (i + 2) end) ≡ f
        on_2 = on-at c s end (i + 1) (i + 2) (omega arith) on_1 (omega arith) le n1

        pub end_2 : get_or s (i + 2) 0 ≡ c → i + 2 ≡ f
        end_2 e = end-at c s end (i + 2) on_2 (omega arith) le e

        module _ (n2 : get_or s (i + 2) 0 ≡ c → ⊥) where
          on_3 : i + 3 + run c (columns s (i + 3) end) ≡ f
          on_3 = on-at c s end (i + 2) (i + 3) (omega arith) on_2 (omega arith) le n2

          pub end_3 : get_or s (i + 3) 0 ≡ c → i + 3 ≡ f
          end_3 e = end-at c s end (i + 3) on_3 (omega arith) le e

          pub on_4 : (get_or s (i + 3) 0 ≡ c → ⊥) → i + 4 + run c (columns s (i + 4) end) ≡ f
          on_4 n3 = on-at c s end (i + 3) (i + 4) (omega arith) on_3 (omega arith) le n3

-- ---- one digit and a tab
digit_size : (s : List ℕ) (at d : ℕ) → at + 1 ≤ length s → 48 ≤ get_or s at 0 → get_or s at 0 ≤ 57 → d ≡ get_or s at 0 - 48 → d ≡ plain_fold (columns s at (at + 1))
unfolding size_from
digit_size s at d le lo hi e = rw (column s at (at + 1) (omega arith) le, columns-none s (at + 1)) (step_first unread (get_or s at 0) lo hi d e refl)

module _ (s : List ℕ) (at end : ℕ) (two : 2 ≤ end - at) (le : end ≤ length s) (t : get_or s (at + 1) 0 ≡ 9) (lo : 48 ≤ get_or s at 0) where
  pub digit_end : at + 1 ≡ at + run 9 (columns s at end)
  digit_end =
      let n : get_or s at 0 ≡ 9 → ⊥ = omega arith in
      rw (column s at end (omega arith) le, run_on 9 (get_or s at 0) _ n, column s (at + 1) end (omega arith) le, run-here 9 (get_or s (at + 1) 0) _ t)

  pub digit_number : (left d : ℕ) → (left ≡ 3 → ⊥) → get_or s at 0 ≤ 57 → d ≡ get_or s at 0 - 48 → sized false d ≡ entry_fold left (columns s at (at + 1))
  digit_number left d n hi e =
      let m : get_or s at 0 ≡ 45 → ⊥ = omega arith in
      num_signed left (columns s at (at + 1)) (sized false d) n (signed-plain s at (at + 1) d (omega arith) (omega arith) m (digit_size s at d (omega arith) lo hi e))

pub ruleset tabs = (digit_end, digit_number)
