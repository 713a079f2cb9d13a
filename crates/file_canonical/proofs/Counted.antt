-- A count goes no further than a file does, and tells the same lines. Assumes nothing.
use mathlib.Core.Path.{◌≡◌, refl, sym, ◌∙◌}
use mathlib.Core.Bool.{Bool, true, false, cond}
use mathlib.Core.List.{List, [], ◌∷◌}
use Prim.Native.Nat.{ℕ, ◌+◌, ◌≤◌, ◌<◌}
use native.Mathlib.Omega.{arith}
use lib.Dec.{leb}
use borrow.Author.Tests.{le-leb, lt-leb, leb-false}
use Rattle.std.proofs.Common.{None, Some}
use Rattle.columns.specs.Format.{parameter_columns, most_lines}
use Rattle.values.specs.Value.{Item}
use Rattle.records.specs.Flow.{line_count}
use Rattle.records.proofs.Lines.{lines_hold}
use Rattle.sheets.specs.Sheet.{Line, start, global, entry, value, last, none}
use Rattle.file_canonical.specs.declared.Tally.{Tally}
use Rattle.file_canonical.specs.Counting.{behind, skipped, with_value, tally_line, counts_in, total_in, tallied, within, most_columns, behind_value, full, capped}

-- ---- what a tally tells

module _ (x : Tally) {m : ℕ} (e : total_in x ≡ m) where
  pub within_few : m ≤ most_lines → within x ≡ Some (counts_in x)
  unfolding within
  within_few h = simp (le-leb (total_in x) most_lines (omega arith))

  pub within-many : most_lines < m → within x ≡ None
  unfolding within
  within-many h = simp (lt-leb (total_in x) most_lines (omega arith))

-- ---- lines take none away

further : (w p : ℕ) (v : Item) → p ≤ behind w p v
unfolding behind
further w p v = omega arith

count_grows : (m n : ℕ) → m ≤ n → (line_count 72 m ≤ line_count 72 n) × (line_count 64 m ≤ line_count 64 n)
unfolding line_count
count_grows m n h = (omega arith, omega arith)

line_grows : (x : Tally) (l : Line) → total_in x ≤ total_in (tally_line x l)
unfolding total_in counts_in
line_grows x (start t) = omega arith
line_grows x (global n v) =
    let f = further 72 (x.global + skipped x.field n) v in
    omega (arith, (count_grows x.global (behind 72 (x.global + skipped x.field n) v) (omega arith)).0)
line_grows x (entry known n f label) = omega arith
line_grows x (value reference v) = omega (arith, (count_grows x.at (behind 64 x.at v) (further 64 x.at v)).1)
line_grows x (last n) = omega arith
line_grows x (none b) = omega arith

lines_grow : (x : Tally) (ls : List Line) → total_in x ≤ total_in (tallied x ls)
lines_grow x [] = omega arith
lines_grow x (l ∷ ls) = omega (arith, line_grows x l, lines_grow (tally_line x l) ls)

-- too many stay too many
many_more : (x : Tally) (ls : List Line) → most_lines < total_in x → within (tallied x ls) ≡ None
many_more x ls h = within-many (tallied x ls) refl (omega (arith, lines_grow x ls))

-- ---- a line too many stands for them

full-many : most_lines < total_in full
unfolding total_in counts_in
full-many = omega arith

pub capped_same : (x : Tally) (ls : List Line) → within (tallied (capped x) ls) ≡ within (tallied x ls)
unfolding capped
capped_same x ls = pick (leb (total_in x) most_lines) refl
  where
    pick : (b : Bool) → leb (total_in x) most_lines ≡ b → within (tallied (cond b x full) ls) ≡ within (tallied x ls)
    pick true e = refl
    pick false e = many_more full ls full-many ∙ sym (many_more x ls (leb-false (total_in x) most_lines e))

-- ---- a record of too many columns is one of too many lines

far_many : (x : Tally) (p : ℕ) → most_columns < p → most_lines < total_in (with_value x p)
unfolding total_in counts_in
far_many x p h = omega (arith, lines_hold 64 p (omega arith))

pub value_same : (x : Tally) (p : ℕ) (reference : Bool) (v : Item) (ls : List Line)
    → within (tallied (with_value x (behind_value p v)) ls) ≡ within (tallied (with_value x p) (value reference v ∷ ls))
unfolding behind_value
value_same x p reference v ls = pick (leb p most_columns) refl
  where
    pick : (b : Bool) → leb p most_columns ≡ b → within (tallied (with_value x (cond b (behind parameter_columns p v) p)) ls) ≡ within (tallied (with_value x (behind parameter_columns p v)) ls)
    pick true e = refl
    pick false e =
        let h : most_columns < p = leb-false p most_columns e in
        many_more (with_value x p) ls (far_many x p h) ∙ sym (many_more (with_value x (behind parameter_columns p v)) ls (far_many x (behind parameter_columns p v) (omega (arith, further parameter_columns p v))))
