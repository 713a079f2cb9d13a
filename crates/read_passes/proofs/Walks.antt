-- The first refusal of a row of checks: a loop that looks for it, and the row of an outcome's steps.
use mathlib.Core.Path.{◌≡◌, refl, sym, ap, ◌∙◌}
use mathlib.Core.List.{List, ◌∷◌, map}
use Prim.Native.Nat.{ℕ, zero, suc, ◌+◌, ◌-◌, ◌*◌, ◌/◌, ◌≤◌, ◌<◌}
use native.Mathlib.Nat.{sub-zero}
use native.Mathlib.Omega.{arith}
use native.Mathlib.Decide.{ℕ_discrete}
use Rattle.columns.specs.declared.Fault.{Fault}
use Rattle.columns.specs.declared.Fault.TheVariants.{Directory}
use Rattle.columns.specs.declared.FileLine.{FileLine}
use Rattle.columns.specs.First.{up_from}
use Rattle.columns.specs.Refusal.{Outcome, accepted, refused, each_at, ◌then◌}
use Rattle.cards.specs.declared.Counts.{Counts}
use Rattle.cards.specs.Cards.{entries, entry_line}
use Rattle.cards.specs.Shared.{file_line}
use Rattle.std.specs.Prelude.{Option, Some, None, Result, Ok, Err, ⊤}
use Rattle.directory.specs.declared.Spelt.{Spelt}
use Rattle.directory.specs.Lines.{entry_at, label_at}
use Rattle.directory.specs.Asking.{outcome_of, rule_of}
use Rattle.directory.proofs.Ranges.{rule_outcome}
use Rattle.model.specs.Read.{Listed, two, by_entry, entry_in, entries_in, first_entry}
use Rattle.columns.specs.declared.Refusal.{Refusal}
use Rattle.columns.specs.Refusal.{refusal_at}
use Rattle.read_passes.specs.Passes.{FilePass, pass_of}
use Rattle.read_passes.specs.Walks.{Turn, or_else, first_among, turn_of, entry_check}

-- ---- a loop from i up to e: r is the answer

module _ (check : ℕ → FilePass) (i e : ℕ) (r : FilePass) (inv : first_among check i (e - i) ≡ r) where
  module _ (x : FilePass) (h : i < e) (ex : x ≡ check i) where
    next : or_else x (first_among check (i + 1) (e - (i + 1))) ≡ r
    unfolding first_among
    next =
        let l : e - i ≡ suc (e - (i + 1)) = omega arith in
        rw ex (rw l at inv)

    pub walk_on : x ≡ Ok tt → first_among check (i + 1) (e - (i + 1)) ≡ r
    walk_on g = rw g at next

    pub walk_here : {n : Refusal FileLine} → x ≡ Err n → Err n ≡ r
    walk_here g = rw g at next

  pub walk_end : e ≤ i → Ok tt ≡ r
  unfolding first_among
  walk_end h =
      let z : e - i ≡ 0 = omega arith in
      rw z at inv

pub walk_start : (check : ℕ → FilePass) (d n : ℕ) → d ≡ n → first_among check 0 (d / 2 - 0) ≡ first_among check 0 (n / 2)
walk_start check d n e = rw (sub-zero, e)

-- ---- two rows in one loop: r is the answer, the refusals of the second kept behind those of the first

pub or_good : (p : FilePass) → or_else p (Ok tt) ≡ p
or_good (Ok u) = refl
or_good (Err n) = refl

or_both : (p q r : FilePass) → or_else (or_else p q) r ≡ or_else p (or_else q r)
or_both (Ok u) q r = refl
or_both (Err n) q r = refl

module _ (a b : ℕ → FilePass) (i e : ℕ) (kept r : FilePass) (inv : or_else (first_among a i (e - i)) (or_else kept (first_among b i (e - i))) ≡ r) where
  module _ (y : Turn) (h : i < e) (ey : y ≡ turn_of (a i) (or_else kept (b i))) where
    abbrev rest_a : FilePass
    rest_a = first_among a (i + 1) (e - (i + 1))

    abbrev rest_b : FilePass
    rest_b = first_among b (i + 1) (e - (i + 1))

    both_next : or_else (or_else (a i) rest_a) (or_else (or_else kept (b i)) rest_b) ≡ r
    unfolding first_among
    both_next =
        let l : e - i ≡ suc (e - (i + 1)) = omega arith in
        rw (or_both kept (b i) rest_b) (rw l at inv)

    pub both_on : {next : FilePass} → y ≡ Ok next → or_else (first_among a (i + 1) (e - (i + 1))) (or_else next (first_among b (i + 1) (e - (i + 1)))) ≡ r
    both_on {next} g = by (a i) (sym ey ∙ g) both_next
      where
        by : (x : FilePass) → turn_of x (or_else kept (b i)) ≡ Ok next → or_else (or_else x rest_a) (or_else (or_else kept (b i)) rest_b) ≡ r → or_else rest_a (or_else next rest_b) ≡ r
        by (Ok u) t n =
            let q : or_else kept (b i) ≡ next = cc in
            rw q at n
        by (Err m) t n = let z : ◌≡◌ {A = ℕ} 0 1 = cc in absurd (omega arith)

    pub both_here : {m : Refusal FileLine} → y ≡ Err m → Err m ≡ r
    both_here {m} g = by (a i) (sym ey ∙ g) both_next
      where
        by : (x : FilePass) → turn_of x (or_else kept (b i)) ≡ Err m → or_else (or_else x rest_a) (or_else (or_else kept (b i)) rest_b) ≡ r → Err m ≡ r
        by (Ok u) t n = let z : ◌≡◌ {A = ℕ} 0 1 = cc in absurd (omega arith)
        by (Err m') t n =
            let em : m ≡ m' = cc in
            rw em n

  pub both_end : e ≤ i → kept ≡ r
  unfolding first_among
  both_end h =
      let z : e - i ≡ 0 = omega arith in
      sym (or_good kept) ∙ (rw z at inv)

-- where all passes, each does
pub each_good : (check : ℕ → FilePass) (n i j : ℕ) → first_among check i n ≡ Ok tt → i ≤ j → j < i + n → check j ≡ Ok tt
unfolding first_among
each_good check zero i j h lo hi = absurd (omega arith)
each_good check (suc n) i j h lo hi = by (check i) refl h (each_good check n (i + 1) j)
  where
    by : (x : FilePass) → check i ≡ x → or_else x (first_among check (i + 1) n) ≡ Ok tt → (first_among check (i + 1) n ≡ Ok tt → i + 1 ≤ j → j < i + 1 + n → check j ≡ Ok tt) → check j ≡ Ok tt
    by (Ok u) e k ih = elim (ℕ_discrete j i) [ yes x ↦ rw x e | no x ↦ ih k (omega arith) (omega arith) ]
    by (Err m) e k ih = let z : ◌≡◌ {A = ℕ} 0 1 = cc in absurd (omega arith)

-- ---- entries two lines apart

module _ {A B : Type 0} (f : ℕ → A → Outcome B) (at : ℕ → A) (p : ℕ) where
  after_one : {y : FilePass} (o : Outcome B) (xs : Outcome (List B)) → pass_of xs ≡ y → pass_of (o then λ z. xs then λ zs. accepted (z ∷ zs)) ≡ or_else (pass_of o) y
  after_one (accepted b) (accepted bs) e = e
  after_one (accepted b) (refused n q) e = e
  after_one (refused n q) xs e = refl

  pub row_walk : (n i q : ℕ) → q ≡ p + 2 * i → pass_of (each_at two f q (map at (up_from i n))) ≡ first_among (λ j. pass_of (f (p + 2 * j) (at j))) i n
  unfolding each_at up_from first_among
  row_walk zero i q e = refl
  row_walk (suc n) i q e =
      rw e (after_one (f (p + 2 * i) (at i)) (each_at two f (p + 2 * i + 2) (map at (up_from (i + 1) n))) (row_walk n (i + 1) (p + 2 * i + 2) (omega arith)))

pub entries_walk : (f : List ℕ) (c : Counts) → pass_of (entries_in f c) ≡ first_among (entry_check f c) 0 (entries c)
unfolding entries_in entry_check
entries_walk f c = row_walk (entry_in f) (entry_line c) (first_entry c) (entries c) 0 (first_entry c) (omega arith)

-- ---- one entry

module _ (f : List ℕ) (c : Counts) (i k : ℕ) (r : Option Spelt) (ek : k ≡ entry_line c i) (er : r ≡ entry_at f k) where
  place : k + 1 ≡ first_entry c + 2 * i
  place = omega arith

  one : entry_check f c i ≡ pass_of (by_entry (label_at f k) (k + 1) r)
  unfolding entry_check entry_in
  one = rw (place, er, ek)

  pub turn_wrong : (kept : FilePass) → r ≡ None → Err (refusal_at Directory (file_line (k + 1))) ≡ turn_of (entry_check f c i) kept
  turn_wrong kept e = sym (ap (λ (p : FilePass). turn_of p kept) one ∙ rw e)

  module _ (x : Spelt) (e : r ≡ Some x) (rule : Result ⊤ Fault) (eq : rule ≡ rule_of x.fields) where
    ruled : entry_check f c i ≡ pass_of (outcome_of rule (k + 1))
    ruled = one ∙ rw (e, ← rule_outcome x.fields (k + 1), ← eq) (by rule)
      where
        by : (q : Result ⊤ Fault) → pass_of {A = Listed} (outcome_of q (k + 1) then λ _. accepted (record { fields = x.fields; label = label_at f k; pointer = x.pointer.0; lines = x.lines })) ≡ pass_of (outcome_of q (k + 1))
        by (Ok done) = refl
        by (Err n) = refl

    pub turn_good : (kept : FilePass) → rule ≡ Ok tt → Ok kept ≡ turn_of (entry_check f c i) kept
    turn_good kept g = sym (ap (λ (p : FilePass). turn_of p kept) ruled ∙ rw g)

    pub turn_refused : (kept : FilePass) (n : Fault) → rule ≡ Err n → Err (refusal_at n (file_line (k + 1))) ≡ turn_of (entry_check f c i) kept
    turn_refused kept n g = sym (ap (λ (p : FilePass). turn_of p kept) ruled ∙ rw g)
