-- An entry put together of its numbers, its type again, its parameter pointer and its line count.
use mathlib.Core.Path.{◌≡◌, refl, sym, ap, ◌∙◌}
use mathlib.Core.List.{List, [], ◌∷◌, ◌++◌}
use Prim.Native.Nat.{ℕ, zero, suc, ◌+◌, ◌-◌, ◌≤◌, ◌<◌}
use native.Mathlib.Nat.{zero-add}
use native.Mathlib.Numerals.{add-one}
use native.Mathlib.Omega.{arith}
use lib.ListN.{length, take, set}
use lib.Seq.{take-suc-set, take_all}
use Rattle.columns.specs.declared.Signed.{Signed}
use Rattle.std.specs.Prelude.{Option, Some, None}
use Rattle.columns.specs.Columns.{columns}
use Rattle.columns.specs.Fixed.{signed_of}
use Rattle.columns.specs.Reading.{SizeBelow}
use Rattle.directory.specs.declared.Fields.{Fields}
use Rattle.directory.specs.declared.Spelt.{Spelt}
use Rattle.directory.specs.Fields.{type_at, fields_of}
use Rattle.directory.specs.Lines.{Slot, number, again, pointer, lines, slots, seek, slot_in, number_in, Numbers, numbers, misspelt, with, numbers_from, size_of, spelt_as, entry_at}
use Rattle.directory.specs.Reading.{slot_at, start_of}
use Rattle.directory.proofs.Slots.{in_at, slot_signed}

-- ---- the numbers

-- one that is no number
numbers_bad : (f : List ℕ) (k n j more : ℕ) → j < more → number_in f k (n + j) ≡ None → numbers_from f k n more ≡ misspelt
unfolding numbers_from
numbers_bad f k n j zero h e = absurd (omega arith)
numbers_bad f k n zero (suc more) h e =
    let a : n + 0 ≡ n = omega arith in
    let b : number_in f k n ≡ None = rw a at e in
    rw b
numbers_bad f k n (suc j) (suc more) h e =
    let a : n + suc j ≡ n + 1 + j = omega arith in
    rw (numbers_bad f k (n + 1) j more (omega arith) (rw a at e)) (none (number_in f k n))
  where
    none : (r : Option Signed) → with r misspelt ≡ misspelt
    none (Some x) = refl
    none None = refl

-- numbers that are read already, ahead of those that follow
abbrev pub ahead : List Signed → Numbers → Numbers
ahead [] ns = ns
ahead (x ∷ xs) ns = with (Some x) (ahead xs ns)

ahead-one : (xs : List Signed) (x : Signed) (ns : Numbers) → ahead (xs ++ (x ∷ [])) ns ≡ ahead xs (with (Some x) ns)
ahead-one [] x ns = refl
ahead-one (y ∷ xs) x ns = ap (with (Some y)) (ahead-one xs x ns)

ahead_none : (xs : List Signed) → ahead xs (numbers []) ≡ numbers xs
ahead_none [] = refl
ahead_none (x ∷ xs) = ap (with (Some x)) (ahead_none xs)

numbers_none : (f : List ℕ) (k n : ℕ) (xs : List Signed) → ahead xs (numbers_from f k n 0) ≡ numbers xs
unfolding numbers_from
numbers_none f k n xs = ahead_none xs

module _ (f : List ℕ) (k : ℕ) where
  pub number-wrong : (n : ℕ) (r : Option Signed) → r ≡ number_in f k n → r ≡ None → n < 12 → None ≡ entry_at f k
  unfolding entry_at
  number-wrong n r e h l = rw (numbers_bad f k 0 n 12 l (rw zero-add (sym e ∙ h)))

  next : (n : ℕ) (xs : List Signed) (x : Signed) (more : ℕ) (all : Numbers) → ahead (take n xs) (numbers_from f k n (suc more)) ≡ all → n < length xs → number_in f k n ≡ Some x
      → ahead (take (suc n) (set xs n x)) (numbers_from f k (n + 1) more) ≡ all
  unfolding numbers_from
  next n xs x more all inv h e = rw (take-suc-set xs n x h, ahead-one) (rw e at inv)

  -- one number more, and all of them
  module _ (n : ℕ) (xs : List Signed) (inv : ahead (take n xs) (numbers_from f k n (12 - n)) ≡ numbers_from f k 0 12) (l : length xs ≡ 12) where
    pub number-on : (x : Signed) (r : Option Signed) → n < 12 → r ≡ number_in f k n → r ≡ Some x
        → ahead (take (n + 1) (set xs n x)) (numbers_from f k (n + 1) (12 - (n + 1))) ≡ numbers_from f k 0 12
    number-on x r h e q =
        let m : 12 - n ≡ suc (12 - (n + 1)) = omega arith in
        rw (add-one n) (rw (add-one n) at (next n xs x (12 - (n + 1)) (numbers_from f k 0 12) (rw m at inv) (omega arith) (sym e ∙ q)))

    pub number-end : 12 ≤ n → n ≤ 12 → numbers_from f k 0 12 ≡ numbers xs
    number-end lo hi =
        let m : 12 - n ≡ 0 = omega arith in
        sym (rw (take_all n xs (omega arith), m) at inv) ∙ numbers_none f k n xs

  pub entry_good : (xs : List Signed) (x : Fields) (a from count : Option Signed) (r : Option Spelt) → numbers_from f k 0 12 ≡ numbers xs → x ≡ fields_of xs
      → a ≡ signed_of (slot_at f k 9) → from ≡ signed_of (slot_at f k 1) → count ≡ signed_of (slot_at f k 12) → r ≡ spelt_as x a from count → r ≡ entry_at f k
  unfolding entry_at slots
  entry_good xs x a from count r e ex ea ef ec er =
      rw (e, in_at f k again, in_at f k pointer, in_at f k lines) (er ∙ rw (ex, ea, ef, ec))

-- one field alone
module _ (f : List ℕ) (k r : ℕ) where
  pub size-at : (j at : ℕ) (t : Option Signed) → at ≡ start_of k j → t ≡ signed_of (columns f at (at + 8)) → r ≡ size_of t → r ≡ size_of (signed_of (slot_at f k j))
  size-at j at t s e h = h ∙ ap size_of (slot_signed f k j at s t e)

  size_in : (x : Slot) → r ≡ size_of (signed_of (slot_at f k (seek x slots))) → r ≡ size_of (signed_of (slot_in f k x))
  size_in x e = e ∙ ap (λ (l : List ℕ). size_of (signed_of l)) (sym (in_at f k x))

  pub type_size : r ≡ size_of (signed_of (slot_at f k 0)) → r ≡ size_of (signed_of (slot_in f k (number type_at)))
  unfolding slots
  type_size e = size_in (number type_at) e

pub size_small : (t : Option Signed) (r m : ℕ) → 0 < m → SizeBelow m t → r ≡ size_of t → r < m
size_small (Some x) r m z h e = omega arith
size_small None r m z h e = omega arith

pub ruleset sizes = (size-at, type_size, size_small)

pub ruleset entries = (number-wrong, number-on, number-end, entry_good)
