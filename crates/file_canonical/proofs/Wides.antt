-- The lines of a sheet that keeps its limits have 72 columns. Assumes nothing.
use mathlib.Core.Path.{◌≡◌, refl, ap, ◌∙◌}
use mathlib.Core.Bool.{true, false}
use mathlib.Core.List.{List, ◌∷◌, ◌++◌, map}
use Prim.Native.Nat.{ℕ, ◌+◌, ◌≤◌}
use native.Mathlib.Omega.{arith}
use lib.ListN.{length, length-append}
use lib.Dec.{leb}
use borrow.Author.Tests.{leb-true}
use Rattle.columns.specs.Decimal.{to_left}
use Rattle.columns.specs.Format.{most_lines}
use Rattle.columns.proofs.Decimals.{length_left}
use Rattle.columns.proofs.Tests.{both_left}
use Rattle.values.specs.Value.{whole}
use Rattle.records.proofs.Round.{length-flow}
use Rattle.records.proofs.Lines.{lines_hold}
use Rattle.cards.specs.declared.Counts.{Counts}
use Rattle.cards.specs.Cards.{total}
use Rattle.cards.specs.Written.{zeros, line_of, totals_of, none, one}
use Rattle.cards.proofs.Round.{length-zeros}
use Rattle.directory.specs.declared.Fields.{Fields}
use Rattle.directory.specs.Lines.{entry_lines}
use Rattle.directory.specs.Reading.{Writable}
use Rattle.directory.proofs.Puts.{entry-lines}
use Rattle.directory.proofs.Round.{first_length, second_length}
use Rattle.sheets.specs.Sheet.{is_start, Row}
use Rattle.sheets.specs.WellFormed.{Each, none as no-each, one as an-each, RowSpelt}
use Rattle.sheets.proofs.Each.{normals}
use Rattle.sheets.proofs.Round.{label_eight}
use Rattle.model.specs.Model.{Carried, carried_of}
use Rattle.model.specs.Canonical.{parameter_text, block_of, directory_lines, parameter_lines}
use Rattle.file_canonical.specs.Laying.{Ranged}
use Rattle.file_canonical.proofs.Totals.{block_lines_lem}
use Rattle.file_canonical.proofs.Sections.{Wide, wide_both, line-length}

-- ---- the D lines have 72 columns

-- a block has a line
block_some : (n : ℕ) (e : Carried) → 1 ≤ length (block_of n e)
unfolding parameter_text
block_some n e =
    omega (arith, block_lines_lem n e, lines_hold 64 (length (parameter_text e)) (omega arith), length-flow 64 0 (whole false e.fields.entity.size ∷ e.values))

entry_wide : (x : Fields) (from count : ℕ) (name : List ℕ) → Writable x from count name → Wide (entry_lines x from count name)
entry_wide x from count name w = rw (entry-lines x from count name) (one (first_length x from count name w) (one (second_length x from count name w) none))

pub directory_wide : {rs : List Row} → Each RowSpelt rs → Each Ranged rs → (n from : ℕ) → 1 ≤ from → from + length (parameter_lines n (map carried_of rs)) ≤ 9999999 → Wide (directory_lines n from (map carried_of rs))
unfolding directory_lines parameter_lines
directory_wide no-each r n from lo hi = none
directory_wide (an-each {x} {xs} p ps) (an-each q qs) n from lo hi =
    let e = carried_of x in
    let es = map carried_of xs in
    let l = length-append (block_of n e) (parameter_lines (n + 2) es) in
    let some = block_some n e in
    wide_both
    (entry_wide x.fields from (length (block_of n e)) x.label (record {
      ranges = q;
      normal = normals p.numbers.proper;
      status_plain = p.numbers.unsigned;
      from_low = lo;
      from_high = omega arith;
      count_low = some;
      count_high = omega arith;
      label = label_eight x.label p.label;
    }))
    (directory_wide ps qs (n + 2) (from + length (block_of n e)) (omega arith) (omega arith))

-- ---- so have the S lines, and the T line has 81 bytes

start_short : (t : List ℕ) → is_start t ≡ true → length t ≤ 72
unfolding is_start
start_short t e = leb-true (length t) 72 (both_left (leb (length t) 72) _ e)

pub starts_wide : {ts : List (List ℕ)} → Each (λ (t : List ℕ). is_start t ≡ true) ts → Wide (map (to_left 72) ts)
starts_wide no-each = none
starts_wide (an-each {x} p ps) = one (length_left 72 x (start_short x p)) (starts_wide ps)

pub last_length : (c : Counts) → total c ≤ most_lines → length (line_of (totals_of c) 84 1) ≡ 81
unfolding totals_of
last_length c h =
    let z : (n : ℕ) → n ≤ most_lines → (b : ℕ) (q : List ℕ) → length ((b ∷ zeros n) ++ q) ≡ 8 + length q = λ n k b q. length-append (b ∷ zeros n) q ∙ omega (arith, length-zeros n (omega arith)) in
    line-length (totals_of c) 84 1
    (z c.s (omega arith) 83 _ ∙ ap (λ (i : ℕ). 8 + i) (z c.g (omega arith) 71 _ ∙ ap (λ (i : ℕ). 8 + i) (z c.d (omega arith) 68 _ ∙ ap (λ (i : ℕ). 8 + i) (z c.p (omega arith) 80 _ ∙ refl))))
    (omega arith)
