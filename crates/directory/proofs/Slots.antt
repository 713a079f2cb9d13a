-- Where each slot of an entry stands, by computation from the one list of slots.
use mathlib.Core.Path.{◌≡◌, refl, sym, ap, ◌∙◌}
use mathlib.Core.Bool.{Bool, true, false, ◌&&◌}
use mathlib.Core.List.{List, [], ◌∷◌, map}
use Prim.Native.Nat.{ℕ, zero, suc, ◌+◌, ◌*◌, ◌/◌, ◌%◌, ◌<◌}
use native.Mathlib.Nat.{zero-add}
use native.Mathlib.Omega.{arith}
use lib.ListN.{get_or, get_or-map}
use lib.Dec.{ltb, eqb}
use borrow.Author.Tests.{ne_eqb, ltb-true}
use Rattle.std.specs.Prelude.{Option}
use Rattle.columns.specs.declared.Signed.{Signed}
use Rattle.columns.specs.Columns.{columns, line_at}
use Rattle.columns.specs.First.{up_from}
use Rattle.columns.specs.Fixed.{field_of, signed_of, with_sign}
use Rattle.columns.specs.Format.{field_columns}
use Rattle.columns.proofs.Tests.{both_left, both_right}
use Rattle.columns.proofs.Columns.{line-columns}
use Rattle.columns.proofs.First.{get_d_up_from}
use Rattle.directory.specs.Fields.{field_count}
use Rattle.directory.specs.Lines.{Slot, number, label, slots, seek, slots_a_line, slot_in, unsigned, number_in, label_at}
use Rattle.directory.specs.Reading.{slot_at, start_of}

-- ---- the columns of each slot

pub in_at : (f : List ℕ) (k : ℕ) (x : Slot) → slot_in f k x ≡ slot_at f k (seek x slots)
unfolding slot_in slot_at
in_at f k x = refl

module _ (f : List ℕ) (k : ℕ) where
  -- of a slot on the first line, and on the second
  pub first_slot : (j : ℕ) → j < slots_a_line → slot_at f k j ≡ columns (line_at f k) (field_columns * j) (field_columns * j + field_columns)
  unfolding slot_at
  first_slot j h =
      let a : k + j / 9 ≡ k = omega arith in
      let b : j % 9 ≡ j = omega arith in
      rw (a, b)

  pub second_slot : (j : ℕ) → j < slots_a_line → slot_at f k (slots_a_line + j) ≡ columns (line_at f (k + 1)) (field_columns * j) (field_columns * j + field_columns)
  unfolding slot_at
  second_slot j h =
      let a : k + (9 + j) / 9 ≡ k + 1 = omega arith in
      let b : (9 + j) % 9 ≡ j = omega arith in
      rw (a, b)

  pub label_slot : slot_in f k label ≡ columns (line_at f (k + 1)) 56 64
  unfolding slots
  label_slot = in_at f k label ∙ second_slot 7 (omega arith)

  -- the slots in the file
  pub slot_columns : (j : ℕ) → slot_at f k j ≡ columns f (start_of k j) (start_of k j + field_columns)
  unfolding slot_at
  slot_columns j =
      let e : 81 * (k + j / 9) + (8 * (j % 9) + 8) ≡ start_of k j + 8 = omega arith in
      line-columns f (k + j / 9) (8 * (j % 9)) (8 * (j % 9) + 8) (omega arith) (omega arith) ∙ ap (columns f (start_of k j)) e

-- ---- the slot of each number

abbrev pub places : List ℕ
places = 0 ∷ 13 ∷ 2 ∷ 3 ∷ 4 ∷ 5 ∷ 6 ∷ 7 ∷ 8 ∷ 10 ∷ 11 ∷ 17 ∷ []

all_places : map (λ (n : ℕ). seek (number n) slots) (up_from 0 field_count) ≡ places
unfolding slots up_from
all_places = refl

pub placed : (n : ℕ) → n < field_count → get_or places n 0 ≡ seek (number n) slots
unfolding slots up_from
placed n h =
    ap (λ (l : List ℕ). get_or l n 0) (sym all_places) ∙ get_or-map (λ (m : ℕ). seek (number m) slots) (up_from 0 field_count) n 0
    ∙ ap (λ (m : ℕ). seek (number m) slots) (get_d_up_from field_count 0 n h ∙ zero-add n)

-- each of them is a slot
abbrev all_below : ℕ → List ℕ → Bool
all_below m [] = true
all_below m (x ∷ xs) = ltb x m && all_below m xs

all_below_lem : (m : ℕ) → 0 < m → (l : List ℕ) → all_below m l ≡ true → (n : ℕ) → get_or l n 0 < m
all_below_lem m z [] h n = z
all_below_lem m z (x ∷ xs) h zero = ltb-true x m (both_left (ltb x m) (all_below m xs) h)
all_below_lem m z (x ∷ xs) h (suc n) = all_below_lem m z xs (both_right (ltb x m) (all_below m xs) h) n

pub placed_low : (n : ℕ) → get_or places n 0 < 18
placed_low n = all_below_lem 18 (omega arith) places refl n

-- ---- what the functions that read a slot are asked

module _ (f : List ℕ) (k j at : ℕ) (start : at ≡ start_of k j) where
  pub slot_signed : (r : Option Signed) → r ≡ signed_of (columns f at (at + 8)) → r ≡ signed_of (slot_at f k j)
  slot_signed r e = rw (slot_columns f k j, ← start) e

  pub slot_plain : (x : Option ℕ) (r : Option Signed) → x ≡ field_of (columns f at (at + 8)) → r ≡ with_sign false x → r ≡ with_sign false (field_of (slot_at f k j))
  slot_plain x r e h = rw (slot_columns f k j, ← start, ← e) h

-- a number of the entry, with a sign or without
module _ (f : List ℕ) (k n j : ℕ) (r : Option Signed) (place : j ≡ seek (number n) slots) (b : Bool) (plain : b ≡ unsigned n) where
  pub number-plain : b ≡ true → r ≡ with_sign false (field_of (slot_at f k j)) → r ≡ number_in f k n
  unfolding number_in
  number-plain h e = rw (← plain, h, in_at f k (number n), ← place) e

  pub number-signed : b ≡ false → r ≡ signed_of (slot_at f k j) → r ≡ number_in f k n
  unfolding number_in
  number-signed h e = rw (← plain, h, in_at f k (number n), ← place) e

pub unsigned_yes : (n : ℕ) → n ≡ 8 → eqb n 8 ≡ unsigned n
unsigned_yes n h = rw h

pub unsigned_no : (n : ℕ) → (n ≡ 8 → ⊥) → eqb n 11 ≡ unsigned n
unsigned_no n h = simp (ne_eqb _ _ h)

pub others_signed : (n : ℕ) → (n ≡ 8 → ⊥) → (n ≡ 11 → ⊥) → unsigned n ≡ false
others_signed n h l = simp (ne_eqb _ _ h, ne_eqb _ _ l)

pub ruleset slotted = (placed, placed_low, slot_signed, slot_plain, unsigned_yes, unsigned_no, number-plain, number-signed)

-- the label in the file
pub label_columns : (f : List ℕ) (k : ℕ) → label_at f k ≡ columns f (81 * (k + 1) + 56) (81 * (k + 1) + 64)
unfolding label_at
label_columns f k = label_slot f k ∙ line-columns f (k + 1) 56 64 (omega arith) (omega arith)
