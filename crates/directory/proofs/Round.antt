-- Round trips of an entry: the two D lines that are written of it are read back as it; how large what was read is.
use mathlib.Core.Path.{◌≡◌, refl, sym, ap, ◌∙◌}
use mathlib.Core.Bool.{Bool, true, false, cond, not, ◌&&◌}
use mathlib.Core.List.{List, [], ◌∷◌, ◌++◌, map, append_assoc}
use Prim.Native.Nat.{ℕ, zero, suc, ◌+◌, ◌-◌, ◌*◌, ◌≤◌, ◌<◌}
use native.Mathlib.Nat.{add-zero, zero-add}
use native.Mathlib.Omega.{arith}
use native.Mathlib.Decide.{dec_lt, ℕ_discrete}
use lib.ListN.{length, get_or, take, drop, length-append, get_or-map}
use lib.Seq.{get_or-take, get_or-drop}
use lib.Dec.{leb, eqb}
use borrow.Author.Tests.{le-leb, leb-true, eq-eqb, ne_eqb, eqb-true, not-true}
use Rattle.columns.specs.declared.Signed.{Signed}
use Rattle.std.specs.Prelude.{Some, None}
use Rattle.columns.specs.declared.ParameterLine.{ParameterLine}
use Rattle.columns.specs.Columns.{columns, line_at, joined}
use Rattle.columns.specs.Fixed.{field_of, signed_of, with_sign, signed, NormalSign}
use Rattle.columns.specs.Decimal.{dec, signed_dec, to_right}
use Rattle.columns.proofs.Tests.{cond_cases, cond_true, cond_same, both_left, both_right, both_true}
use Rattle.columns.proofs.Columns.{columns_skip, columns-part}
use Rattle.columns.proofs.Decimals.{length_right, length_dec_below, length-signed}
use Rattle.columns.proofs.Round.{field-padded, field_zero_filled, signed-padded}
use Rattle.directory.specs.declared.Fields.{Fields}
use Rattle.directory.specs.Fields.{nought, in_order}
use Rattle.directory.specs.Lines.{Slot, number, again, pointer, lines, reserved, label, slots, seek, slot_in, unsigned, number_in, numbers, with, numbers_from, is_same, parameter_line, entry_at, label_at, written, slot_of, entry_lines, spelt_entry}
use Rattle.directory.specs.Rules.{narrow, ranges_ok, signs_ok, limits_ok, status_ok}
use Rattle.directory.specs.Reading.{slot_at, first_line, second_line, Within, Normals, Writable}
use Rattle.directory.proofs.Slots.{in_at, first_slot, second_slot, placed, placed_low, others_signed}
use Rattle.directory.proofs.Within.{small}
use Rattle.directory.proofs.Puts.{entry-lines}

-- ---- slots of eight columns joined

-- each has eight columns
abbrev AllEight : List (List ℕ) → Type 0
AllEight [] = Unit {0}
AllEight (l ∷ ls) = (length l ≡ 8) × AllEight ls

joined_length : (ls : List (List ℕ)) → AllEight ls → length (joined ls) ≡ 8 * length ls
unfolding joined
joined_length [] a = refl
joined_length (l ∷ ls) a = rw length-append (omega (arith, a.0, joined_length ls a.1))

-- the columns of one of them
joined-columns : (ls : List (List ℕ)) (d rest : List ℕ) → AllEight ls → (j : ℕ) → j < length ls → columns (joined ls ++ rest) (8 * j) (8 * j + 8) ≡ get_or ls j d
unfolding joined
joined-columns [] d rest a j h = absurd (omega arith)
joined-columns (l ∷ ls) d rest a zero h = rw append_assoc (columns-part l (joined ls ++ rest) 8 a.0)
joined-columns (l ∷ ls) d rest a (suc j) h =
    let b : 8 * suc j - 8 ≡ 8 * j = omega arith in
    let e : 8 * suc j + 8 - 8 ≡ 8 * j + 8 = omega arith in
    rw append_assoc (columns_skip l (joined ls ++ rest) 8 (8 * suc j) (8 * suc j + 8) a.0 (omega arith) ∙ rw (b, e) (joined-columns ls d rest a.1 j (omega arith)))

-- ---- the numbers of an entry, one by one

narrow_at : (xs : List Signed) → narrow xs ≡ true → (n : ℕ) → n < length xs → length (signed_dec (get_or xs n nought)) ≤ 8
narrow_at [] e n h = absurd (omega arith)
narrow_at (x ∷ xs) e zero h = leb-true (length (signed_dec x)) 8 (both_left (leb (length (signed_dec x)) 8) (narrow xs) e)
narrow_at (x ∷ xs) e (suc n) h = narrow_at xs (both_right (leb (length (signed_dec x)) 8) (narrow xs) e) n (omega arith)

normal-at : (xs : List Signed) → Normals xs → (n : ℕ) → n < length xs → NormalSign (get_or xs n nought)
normal-at [] a n h = absurd (omega arith)
normal-at (x ∷ xs) a zero h = a.0
normal-at (x ∷ xs) a (suc n) h = normal-at xs a.1 n (omega arith)

-- a number without a sign is written like its size
plain-dec : (y : Signed) → y.neg ≡ false → signed_dec y ≡ dec y.size
unfolding signed_dec
plain-dec y h = rw h

plain-is : (y : Signed) → y.neg ≡ false → signed false y.size ≡ y
plain-is y h = eta y.neg h
  where
    eta : (b : Bool) → b ≡ false → ◌≡◌ {A = Signed} (signed false y.size) (record { neg = b; size = y.size })
    eta b e = rw (cond_same (eqb y.size 0) false, e)

signed-number : (n : ℕ) → signed_of (to_right 32 8 (dec n)) ≡ Some (record { neg = false; size = n })
signed-number n =
    ap (λ (t : List ℕ). signed_of (to_right 32 8 t)) (sym (plain-dec (record { neg = false; size = n }) refl))
    ∙ signed-padded 8 (record { neg = false; size = n }) (λ z. refl)

written_status : (y : Signed) → with_sign false (field_of (written 8 y)) ≡ Some (signed false y.size)
written_status y = ap (with_sign false) (field_zero_filled 8 y.size)

written-plain : (n : ℕ) (y : Signed) → (n ≡ 8 → ⊥) → y.neg ≡ false → with_sign false (field_of (written n y)) ≡ Some (signed false y.size)
written-plain n y h p = rw (ne_eqb _ _ h, plain-dec y p) (ap (with_sign false) (field-padded 8 y.size))

written-signed : (n : ℕ) (y : Signed) → (n ≡ 8 → ⊥) → NormalSign y → signed_of (written n y) ≡ Some y
written-signed n y h p = rw (ne_eqb _ _ h) (signed-padded 8 y p)

written-length : (n : ℕ) (y : Signed) → length (signed_dec y) ≤ 8 → length (written n y) ≡ 8
written-length n y h =
    cond_cases (λ (l : List ℕ). length l ≡ 8) (eqb n 8) (to_right 48 8 (dec y.size)) (to_right 32 8 (signed_dec y))
    (λ e. length_right 48 8 (dec y.size) (omega (arith, length-signed y)))
    (λ e. length_right 32 8 (signed_dec y) h)

-- a number's slot is among the slots
seek_finds : (l : List Slot) (n : ℕ) → seek (number n) l < length l → get_or l (seek (number n) l) reserved ≡ number n
seek_finds [] n h = absurd (omega arith)
seek_finds (number m ∷ l) n h = pick (eqb n m) refl h (seek_finds l n)
  where
    pick : (b : Bool) → eqb n m ≡ b → cond b 0 (suc (seek (number n) l)) < suc (length l)
        → (seek (number n) l < length l → get_or l (seek (number n) l) reserved ≡ number n)
        → get_or (number m ∷ l) (cond b 0 (suc (seek (number n) l))) reserved ≡ number n
    pick true e h ih = ap number (sym (eqb-true n m e))
    pick false e h ih = ih (omega arith)
seek_finds (again ∷ l) n h = seek_finds l n (omega arith)
seek_finds (pointer ∷ l) n h = seek_finds l n (omega arith)
seek_finds (lines ∷ l) n h = seek_finds l n (omega arith)
seek_finds (reserved ∷ l) n h = seek_finds l n (omega arith)
seek_finds (label ∷ l) n h = seek_finds l n (omega arith)

nine_first : (g : Slot → List ℕ) → length (map g (take 9 slots)) ≡ 9
unfolding slots
nine_first g = refl

nine_second : (g : Slot → List ℕ) → length (map g (drop 9 slots)) ≡ 9
unfolding slots
nine_second g = refl

same_self : (y : Signed) → is_same y (Some y) ≡ true
same_self y = both_true (eq-eqb y.size y.size refl) (pick y.neg)
  where
    pick : (b : Bool) → cond b b (not b) ≡ true
    pick true = refl
    pick false = refl

-- numbers read one by one are the list of them
numbers_are : (f : List ℕ) (k : ℕ) (xs : List Signed) (n : ℕ) → ((j : ℕ) → j < length xs → number_in f k (n + j) ≡ Some (get_or xs j nought)) → numbers_from f k n (length xs) ≡ numbers xs
unfolding numbers_from
numbers_are f k [] n h = refl
numbers_are f k (x ∷ xs) n h =
    rw (← add-zero n, h 0 (omega arith)) (rw add-zero (ap (with (Some x)) (numbers_are f k xs (n + 1) (λ j l. ap (number_in f k) (next j) ∙ h (suc j) (omega arith)))))
  where
    next : (j : ℕ) → n + 1 + j ≡ n + suc j
    next j = omega arith

eighteen : length slots ≡ 18
unfolding slots
eighteen = refl

-- ---- an entry that may be written

module _ (x : Fields) (from count : ℕ) (name : List ℕ) (w : Writable x from count name) where
  abbrev slotted : Slot → List ℕ
  slotted = slot_of x from count name

  narrows : narrow (in_order x) ≡ true
  unfolding ranges_ok
  narrows =
      both_right (status_ok x.status.size) (narrow (in_order x))
      (both_right (limits_ok x) (status_ok x.status.size && narrow (in_order x))
      (both_right (signs_ok x) (limits_ok x && (status_ok x.status.size && narrow (in_order x))) w.ranges))

  subscript_plain_lem : x.subscript.neg ≡ false
  unfolding ranges_ok
  subscript_plain_lem = last x.entity.neg x.view.neg x.matrix.neg x.display.neg x.weight.neg x.form.neg x.subscript.neg
      (both_left (signs_ok x) (limits_ok x && (status_ok x.status.size && narrow (in_order x))) w.ranges)
    where
      last : (a b c d e f g : Bool) → not a && (not b && (not c && (not d && (not e && (not f && not g))))) ≡ true → g ≡ false
      last a b c d e f g h =
          not-true g (both_right (not f) (not g) (both_right (not e) (not f && not g) (both_right (not d) (not e && (not f && not g))
          (both_right (not c) (not d && (not e && (not f && not g))) (both_right (not b) (not c && (not d && (not e && (not f && not g))))
          (both_right (not a) (not b && (not c && (not d && (not e && (not f && not g))))) h))))))

  fits : (n : ℕ) → n < 12 → length (signed_dec (get_or (in_order x) n nought)) ≤ 8
  fits n h = narrow_at (in_order x) narrows n h

  number_eight : (n : ℕ) → n < 12 → length (slotted (number n)) ≡ 8
  number_eight n h = written-length n (get_or (in_order x) n nought) (fits n h)

  dec_eight : (n : ℕ) → n ≤ 99999999 → length (to_right 32 8 (dec n)) ≡ 8
  dec_eight n h = length_right 32 8 (dec n) (length_dec_below 8 n (omega arith) (omega arith))

  first_eight : AllEight (map slotted (take 9 slots))
  unfolding slots
  first_eight = (
    number_eight 0 (omega arith),
    (
      dec_eight from w.from_high,
      (
        number_eight 2 (omega arith),
        (
          number_eight 3 (omega arith),
          (
            number_eight 4 (omega arith),
            (number_eight 5 (omega arith), (number_eight 6 (omega arith), (number_eight 7 (omega arith), (number_eight 8 (omega arith), tt)))),
          ),
        ),
      ),
    ),
  )

  second_eight : AllEight (map slotted (drop 9 slots))
  unfolding slots
  second_eight = (
    number_eight 0 (omega arith),
    (
      number_eight 9 (omega arith),
      (
        number_eight 10 (omega arith),
        (
          dec_eight count w.count_high,
          (
            number_eight 1 (omega arith),
            (refl, (refl, (w.label, (number_eight 11 (omega arith), tt)))),
          ),
        ),
      ),
    ),
  )

  first_is : first_line x from ≡ joined (map slotted (take 9 slots))
  unfolding first_line slots
  first_is = refl

  second_is : second_line x count name ≡ joined (map slotted (drop 9 slots))
  unfolding second_line slots
  second_is = refl

  -- each line has 72 columns
  pub first_length : length (first_line x from) ≡ 72
  first_length = ap length first_is ∙ joined_length (map slotted (take 9 slots)) first_eight ∙ ap (λ (n : ℕ). 8 * n) (nine_first slotted)

  pub second_length : length (second_line x count name) ≡ 72
  second_length = ap length second_is ∙ joined_length (map slotted (drop 9 slots)) second_eight ∙ ap (λ (n : ℕ). 8 * n) (nine_second slotted)

  -- ---- two lines of a file that begin with them

  module _ (f : List ℕ) (k : ℕ) (r s : List ℕ) (first : line_at f k ≡ first_line x from ++ r) (second : line_at f (k + 1) ≡ second_line x count name ++ s) where
    first_written : (j : ℕ) → j < 9 → slot_at f k j ≡ slotted (get_or slots j reserved)
    first_written j h =
        first_slot f k j h ∙ ap (λ (l : List ℕ). columns l (8 * j) (8 * j + 8)) (first ∙ ap (λ (l : List ℕ). l ++ r) first_is)
        ∙ joined-columns (map slotted (take 9 slots)) (slotted reserved) r first_eight j (omega (arith, nine_first slotted))
        ∙ get_or-map slotted (take 9 slots) j reserved ∙ ap slotted (get_or-take 9 slots j reserved h)

    second_written : (j : ℕ) → j < 9 → slot_at f k (9 + j) ≡ slotted (get_or slots (9 + j) reserved)
    second_written j h =
        second_slot f k j h ∙ ap (λ (l : List ℕ). columns l (8 * j) (8 * j + 8)) (second ∙ ap (λ (l : List ℕ). l ++ s) second_is)
        ∙ joined-columns (map slotted (drop 9 slots)) (slotted reserved) s second_eight j (omega (arith, nine_second slotted))
        ∙ get_or-map slotted (drop 9 slots) j reserved ∙ ap slotted (get_or-drop 9 slots j reserved)

    slot_written : (j : ℕ) → j < 18 → slot_at f k j ≡ slotted (get_or slots j reserved)
    slot_written j h = elim (dec_lt j 9) [
      | yes l ↦ first_written j l
      | no l ↦
          let e : 9 + (j - 9) ≡ j = omega arith in
          rw e at (second_written (j - 9) (omega arith))
    ]

    number_slot : (n : ℕ) → n < 12 → slot_in f k (number n) ≡ written n (get_or (in_order x) n nought)
    number_slot n h =
        let l : seek (number n) slots < 18 = rw (placed n h) at (placed_low n) in
        in_at f k (number n) ∙ slot_written (seek (number n) slots) l ∙ ap slotted (seek_finds slots n (omega (arith, eighteen)))

    number_read : (n : ℕ) → n < 12 → number_in f k n ≡ Some (get_or (in_order x) n nought)
    unfolding number_in
    number_read n h = rw (number_slot n h) (pick (ℕ_discrete n 8) (ℕ_discrete n 11))
      where
        y : Signed
        y = get_or (in_order x) n nought

        pick : Dec (n ≡ 8) → Dec (n ≡ 11) → cond (unsigned n) (with_sign false (field_of (written n y))) (signed_of (written n y)) ≡ Some y
        pick (yes e) d = rw e (written_status x.status ∙ ap Some (plain-is x.status w.status_plain))
        pick (no e) (yes d) = rw d (written-plain 11 x.subscript (λ z. omega arith) subscript_plain_lem ∙ ap Some (plain-is x.subscript subscript_plain_lem))
        pick (no e) (no d) = rw (others_signed n e d) (written-signed n y e (normal-at (in_order x) w.normal n h))

    -- ---- what stands besides the numbers

    field_slot : (j : ℕ) (t : Slot) → seek t slots ≡ j → j < 18 → get_or slots j reserved ≡ t → slot_in f k t ≡ slotted t
    field_slot j t e h g = in_at f k t ∙ ap (slot_at f k) e ∙ slot_written j h ∙ ap slotted g

    again_read : signed_of (slot_in f k again) ≡ Some x.entity
    unfolding slots
    again_read = ap signed_of (field_slot 9 again refl (omega arith) refl) ∙ written-signed 0 x.entity (λ z. omega arith) w.normal.0

    pointer_read : signed_of (slot_in f k pointer) ≡ Some (record { neg = false; size = from })
    unfolding slots
    pointer_read = ap signed_of (field_slot 1 pointer refl (omega arith) refl) ∙ signed-number from

    lines-read : signed_of (slot_in f k lines) ≡ Some (record { neg = false; size = count })
    unfolding slots
    lines-read = ap signed_of (field_slot 12 lines refl (omega arith) refl) ∙ signed-number count

    -- the label is read back
    pub label_read : label_at f k ≡ name
    unfolding label_at slots
    label_read = field_slot 16 label refl (omega arith) refl

    -- ---- the entry

    numbers_read : numbers_from f k 0 12 ≡ numbers (in_order x)
    numbers_read = numbers_are f k (in_order x) 0 (λ j h. ap (number_in f k) (zero-add j) ∙ number_read j h)

    -- the entry is read back
    pub entry_read : entry_at f k ≡ Some (spelt_entry x (parameter_line from) count)
    unfolding entry_at
    entry_read =
        rw (numbers_read, again_read, pointer_read, lines-read)
        (cond_true (Some (spelt_entry x (parameter_line from) count)) None (both_true (same_self x.entity) (both_true (le-leb 1 from w.from_low) (le-leb 1 count w.count_low))))

-- ---- the two elements of entry_lines

-- two lines of a file begin with the columns of an entry
pub data Begin (f : List ℕ) (k : ℕ) : List (List ℕ) → Type 0 where
  begin : {a b : List ℕ} (r s : List ℕ) → line_at f k ≡ a ++ r → line_at f (k + 1) ≡ b ++ s → Begin f k (a ∷ b ∷ [])

pub entry_back : (x : Fields) (from count : ℕ) (name f : List ℕ) (k : ℕ) → Writable x from count name → Begin f k (entry_lines x from count name)
    → (entry_at f k ≡ Some (spelt_entry x (parameter_line from) count)) × (label_at f k ≡ name)
entry_back x from count name f k w b = back (rw (entry-lines x from count name) at b)
  where
    back : Begin f k (first_line x from ∷ second_line x count name ∷ []) → (entry_at f k ≡ Some (spelt_entry x (parameter_line from) count)) × (label_at f k ≡ name)
    back (begin r s p q) = (entry_read x from count name w f k r s p q, label_read x from count name w f k r s p q)

-- ---- what was read

pub spelt-within : (f : List ℕ) (k : ℕ) (x : Fields) (from : ParameterLine) (count : ℕ) → entry_at f k ≡ Some (spelt_entry x from count) → Within x from count
spelt-within f k x from count e = rw e at (small f k)
