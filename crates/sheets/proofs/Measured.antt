-- The bytes of an entry line, number by number.
use mathlib.Core.Path.{◌≡◌, refl, ap₂}
use mathlib.Core.Bool.{Bool, false}
use mathlib.Core.List.{List, [], ◌∷◌, ◌++◌}
use Prim.Native.Nat.{ℕ, suc, ◌+◌, ◌-◌, ◌≤◌, ◌<◌}
use native.Mathlib.Numerals.{add-one}
use native.Mathlib.Nat.{zero-add}
use native.Mathlib.Omega.{arith}
use lib.ListN.{length, get_or, drop, length-append, length-replicate}
use lib.Seq.{drop-cons}
use borrow.Author.Tests.{ne_eqb}
use Rattle.columns.specs.declared.Signed.{Signed}
use Rattle.columns.specs.Decimal.{dec, signed_dec, to_right}
use Rattle.directory.specs.declared.Fields.{Fields}
use Rattle.directory.specs.Fields.{nought, in_order}
use Rattle.sheets.specs.Plain.{sized}
use Rattle.sheets.specs.Line.{spell, spells, entry_line}
use Rattle.sheets.specs.Sheet.{entry, line_of}
use Rattle.sheets.specs.Writing.{entry_length}

-- ---- a number

filled-length : (width : ℕ) (t : List ℕ) → length (to_right 48 width t) ≡ width - length t + length t
unfolding to_right
filled-length width t = simp (length-append, length-replicate)

module _ (left : ℕ) (x : Signed) (count : ℕ) (ec : count ≡ length (dec x.size)) (e : left ≡ 3) where
  status_length : length (spell left x) ≡ 8 - count + count
  unfolding spell
  status_length = rw (e, ec) (filled-length 8 (dec x.size))

  pub status_few : count < 8 → 8 ≡ length (spell left x)
  status_few h = omega (arith, status_length)

  pub status_many : 8 ≤ count → count ≡ length (spell left x)
  status_many h = omega (arith, status_length)

pub plain-length : (left : ℕ) (x : Signed) (r : ℕ) → r ≡ length (signed_dec x) → (left ≡ 3 → ⊥) → r ≡ length (spell left x)
unfolding spell
plain-length left x r er e = simp (ne_eqb _ _ e) er

-- ---- the numbers

one_more : (left : ℕ) (x : Signed) (ys : List Signed) → length (spells (suc left) (x ∷ ys)) ≡ length (spell left x) + suc (length (spells left ys))
unfolding spells
one_more left x ys = length-append (spell left x) (9 ∷ spells left ys)

-- one turn: a number and a tab
pub turn_length : (xs : List Signed) (k size t n : ℕ) → k < 13 → length xs ≡ 13 → size + length (spells (13 - k) (drop k xs)) ≡ t
    → n ≡ length (spell (12 - k) (get_or xs k nought)) → size + (n + 1) + length (spells (13 - (k + 1)) (drop (k + 1) xs)) ≡ t
turn_length xs k size t n h l inv en =
    let m : 13 - k ≡ suc (12 - k) = omega arith in
    let e : 13 - (k + 1) ≡ 12 - k = omega arith in
    let d : drop k xs ≡ get_or xs k nought ∷ drop (k + 1) xs = rw add-one (drop-cons xs k nought (omega arith)) in
    let a : length (spells (13 - k) (drop k xs)) ≡ length (spells (suc (12 - k)) (get_or xs k nought ∷ drop (k + 1) xs)) = ap₂ (λ (j : ℕ) (ys : List Signed). length (spells j ys)) m d in
    rw e (omega (arith, a, one_more (12 - k) (get_or xs k nought) (drop (k + 1) xs)))

pub turns_begin : (xs : List Signed) → 0 + length (spells 13 (drop 0 xs)) ≡ length (spells 13 xs)
turns_begin xs = zero-add _

pub turns_done : (xs : List Signed) (k size t : ℕ) → 13 ≤ k → size + length (spells (13 - k) (drop k xs)) ≡ t → size ≡ t
unfolding spells
turns_done xs k size t h inv =
    let m : 13 - k ≡ 0 = omega arith in
    let a : length (spells (13 - k) (drop k xs)) ≡ 0 = rw m refl in
    omega (arith, a)

-- ---- the line

pub entry-counted : (n : ℕ) (x : Fields) (xs : List Signed) (m label : ℕ) → xs ≡ sized false n ∷ in_order x → m ≡ length (spells 13 xs) → m + label + 3 ≡ entry_length n x label
unfolding entry_length
entry-counted n x xs m label e em = rw (em, e)

pub ruleset measured = (status_few, status_many, plain-length, turn_length, turns_begin, turns_done, entry-counted)

-- a line with E and one with U are as long
pub entry_length_lem : (known : Bool) (n : ℕ) (x : Fields) (label : List ℕ) → length (line_of (entry known (sized false n) x label) ++ (10 ∷ [])) ≡ entry_length n x (length label)
unfolding line_of entry_line entry_length
entry_length_lem known n x label = simp length-append (omega arith)
