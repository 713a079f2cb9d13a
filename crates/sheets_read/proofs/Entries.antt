-- What the functions that read an entry line are asked.
use mathlib.Core.Path.{◌≡◌, refl, sym, ◌∙◌}
use mathlib.Core.Bool.{Bool, true, false}
use mathlib.Core.List.{List, [], ◌∷◌}
use Prim.Native.Nat.{ℕ, suc, ◌+◌, ◌-◌, ◌≤◌, ◌<◌}
use native.Mathlib.Numerals.{add-one}
use native.Mathlib.Omega.{arith}
use lib.ListN.{length, get_or, take, set, length-set}
use lib.Seq.{take-suc-set, take_all}
use borrow.Author.Tests.{lt-ltb, le-ltb, ne_eqb}
use Rattle.std.proofs.Common.{Option, None}
use Rattle.columns.specs.declared.Signed.{Signed}
use Rattle.columns.specs.Columns.{columns, printable}
use Rattle.columns.specs.Format.{most_integer}
use Rattle.columns.proofs.Columns.{byte_of, length-columns}
use Rattle.directory.specs.Fields.{nought}
use Rattle.sheets.specs.declared.EntryLine.{EntryLine}
use Rattle.sheets.specs.Line.{run, is_label, entry_number, entry_from, numbers_of, entry_of, entry_got}
use Rattle.sheets.specs.Folds.{entry_fold}
use Rattle.sheets.proofs.Plains.{first_byte, no_second, columns-take, columns-drop}
use Rattle.sheets.proofs.Folds.{tells_good, tells_bad, entry-fold}

-- ---- the numbers of a line: f is the answer

-- the numbers by their places
pub entry-from : (known : Bool) (xs : List Signed) → entry_got known (get_or xs 0 nought) (record {
  entity = get_or xs 1 nought;
  form = get_or xs 2 nought;
  structure = get_or xs 3 nought;
  font = get_or xs 4 nought;
  level = get_or xs 5 nought;
  view = get_or xs 6 nought;
  matrix = get_or xs 7 nought;
  display = get_or xs 8 nought;
  status = get_or xs 9 nought;
  weight = get_or xs 10 nought;
  colour = get_or xs 11 nought;
  subscript = get_or xs 12 nought;
}) ≡ entry_from known xs
entry-from known [] = refl
entry-from known (x ∷ xs) = refl

-- k numbers are in xs, and those that are left are read from i on
pub record Reading (f : Option EntryLine) (s : List ℕ) (known : Bool) (xs : List Signed) (k i end : ℕ) : Type 0 where
  pub all : length xs ≡ 13
  pub low : i ≤ end
  pub rest : numbers_of known (13 - k) (take k xs) (columns s i end) ≡ f

pub reading_none : (s : List ℕ) (known : Bool) (xs : List Signed) (at end : ℕ) → length xs ≡ 13 → at ≤ end → Reading (numbers_of known 13 [] (columns s at end)) s known xs 0 at end
reading_none s known xs at end l h = record { all = l; low = h; rest = refl }

module _ {f : Option EntryLine} {s : List ℕ} {known : Bool} {xs : List Signed} {k i end : ℕ} (r : Reading f s known xs k i end) (le : end ≤ length s) where
  module _ (e : ℕ) (some : k < 13) (lo : i ≤ e) (hi : e ≤ end) (en : e ≡ i + run 9 (columns s i end)) where
    at-run : run 9 (columns s i end) ≡ e - i
    at-run = omega arith

    more : 13 - k ≡ suc (12 - k)
    more = omega arith

    inv : numbers_of known (suc (12 - k)) (take k xs) (columns s i end) ≡ f
    inv = rw more at r.rest

    pub numbers_short : e ≡ end → None ≡ f
    unfolding numbers_of
    numbers_short h = simp (numbers_of, at-run, length-columns s i end (omega arith) le, le-ltb (e - i) (end - i) (omega arith)) at inv

    -- the number is told by the code's form of it
    module _ (x : Signed) (h : e ≡ end → ⊥) (p : x ≡ entry_fold (12 - k) (columns s i e)) where
      pub numbers_bad : most_integer < x.size → None ≡ f
      unfolding numbers_of
      numbers_bad q =
          let g = tells_bad (entry-fold (12 - k) (columns s i e)) (rw p at q) in
          simp (numbers_of, at-run, length-columns s i end (omega arith) le, lt-ltb (e - i) (end - i) (omega arith), columns-take s i e end lo hi, g) at inv

      pub numbers_more : x.size ≤ most_integer → Reading f s known (set xs k x) (k + 1) (e + 1) end
      unfolding numbers_of
      numbers_more q =
          let a : i + suc (e - i) ≡ e + 1 = omega arith in
          let less : 13 - (k + 1) ≡ 12 - k = omega arith in
          let g = tells_good (entry-fold (12 - k) (columns s i e)) (rw p at q) in
          let y : x ≡ entry_number (12 - k) (columns s i e) = p ∙ g.1 in
          record {
            all = omega (arith, length-set {A = Signed});
            low = omega arith;
            rest = rw (less, add-one k, take-suc-set xs k x (omega arith)) (simp (numbers_of, at-run, length-columns s i end (omega arith) le, lt-ltb (e - i) (end - i) (omega arith), columns-take s i e end lo hi, g.0, ← y, columns-drop s i (suc (e - i)) end, a) at inv);
          }

  module _ (none : 13 ≤ k) where
    nil : 13 - k ≡ 0
    nil = omega arith

    pub label_short : (end - i ≡ 8 → ⊥) → None ≡ f
    unfolding numbers_of is_label
    label_short h = simp (numbers_of, length-columns s i end r.low le, ne_eqb _ _ h) at (rw nil at r.rest)

    pub label_bad : (p : Bool) → end - i ≡ 8 → p ≡ printable (columns s i end) → p ≡ false → None ≡ f
    unfolding numbers_of is_label
    label_bad p h e q = simp (numbers_of, length-columns s i end r.low le, h, ← e, q) at (rw nil at r.rest)

    pub label_good : (p : Bool) (x : Option EntryLine) → end - i ≡ 8 → p ≡ printable (columns s i end) → p ≡ true → k ≤ 13 → x ≡ entry_from known xs → x ≡ f
    unfolding numbers_of is_label
    label_good p x h e q c g = let l = r.all in g ∙ (simp (numbers_of, length-columns s i end r.low le, h, ← e, q, take_all k xs (omega arith)) at (rw nil at r.rest))

pub ruleset rows = (entry-from, reading_none, numbers_short, numbers_bad, numbers_more, label_short, label_bad, label_good)

-- ---- the line
module _ (s : List ℕ) (at end : ℕ) where
  pub line_short : at ≤ end → end ≤ length s → end - at < 2 → None ≡ entry_of (columns s at end)
  unfolding entry_of
  line_short h k l = rw (no_second s at end h k l)

  module _ (lo : at ≤ end) (le : end ≤ length s) (two : 2 ≤ end - at) where
    b0 : get_or (columns s at end) 0 0 ≡ get_or s at 0
    b0 = first_byte s at end (omega arith) le

    b1 : get_or (columns s at end) 1 0 ≡ get_or s (at + 1) 0
    b1 = byte_of s at end 1 (omega arith)

    pub line-tab : (get_or s (at + 1) 0 ≡ 9 → ⊥) → None ≡ entry_of (columns s at end)
    unfolding entry_of
    line-tab h = rw b1 (simp (ne_eqb _ _ h))

    module _ (t : get_or s (at + 1) 0 ≡ 9) where
      pub line_known : (r : Option EntryLine) → get_or s at 0 ≡ 69 → r ≡ numbers_of true 13 [] (columns s (at + 2) end) → r ≡ entry_of (columns s at end)
      unfolding entry_of
      line_known r h e = e ∙ rw (b0, b1, h, t, columns-drop)

      pub line_unknown : (r : Option EntryLine) → get_or s at 0 ≡ 85 → r ≡ numbers_of false 13 [] (columns s (at + 2) end) → r ≡ entry_of (columns s at end)
      unfolding entry_of
      line_unknown r h e = e ∙ rw (b0, b1, h, t, columns-drop)

      pub line_other : (get_or s at 0 ≡ 69 → ⊥) → (get_or s at 0 ≡ 85 → ⊥) → None ≡ entry_of (columns s at end)
      unfolding entry_of
      line_other h k = rw (b0, b1, t) (simp (ne_eqb _ _ h, ne_eqb _ _ k))

pub ruleset line = (line_short, line-tab, line_known, line_unknown, line_other)
