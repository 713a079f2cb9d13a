-- The lines of the file, counted on the first walk: those from a place on, behind the tally so far, are those of all lines. Assumes nothing.
use Rattle.std.proofs.Common.{◌≡◌, ℕ, ◌+◌, ◌^◌, ◌<◌, ◌≤◌, List, length, drop, refl, ap, ◌∙◌, arith}
use Rattle.columns.specs.Columns.{columns}
use Rattle.sheets.specs.declared.Said.{Said}
use Rattle.sheets.specs.Line.{run}
use Rattle.sheets.specs.Sheet.{says_of, said_by, lines_in}
use Rattle.sheets.proofs.Walk.{lines_first}
use Rattle.file_canonical.specs.declared.Tally.{Tally}
use Rattle.file_canonical.specs.Counting.{begun, tally_line, tally_said, tallied, within, lines_of_sheet, Under, Lines}
use Rattle.file_canonical.proofs.Tallies.{tally-line}
use Rattle.write_lines.proofs.Lines.{lines-piece, lines_none}

-- f is the count
module _ (f : Lines) (t : List ℕ) (x : Tally) (at n : ℕ) (inv : within (tallied x (lines_in (drop at t))) ≡ f) (all : n ≡ length t) where
  pub count-end : n ≤ at → within x ≡ f
  count-end h = rw (lines_none t at (omega arith)) at inv

  module _ (e : ℕ) (lt : at < n) (lo : at ≤ e) (hi : e ≤ length t) (en : e ≡ at + run 10 (drop at t)) where
    pub count-piece : e ≡ n → within x ≡ f
    count-piece h =
        let q = lines-piece t at (omega arith) (omega arith) in
        rw q.1 at inv

    pub count-on : (e ≡ n → ⊥) → (y : Said) (z : Tally) → y ≡ says_of (columns t at e) → z ≡ tally_said x y → within (tallied z (lines_in (drop (e + 1) t))) ≡ f
    count-on h y z d p =
        let i : within (tallied (tally_line x (said_by (columns t at e))) (lines_in (drop (e + 1) t))) ≡ f = rw (lines_first t at e lo (omega arith) en) at inv in
        ap (λ (k : Tally). within (tallied k (lines_in (drop (e + 1) t)))) (p ∙ tally-line x (columns t at e) y d) ∙ i

pub count-start : (t : List ℕ) → within (tallied begun (lines_in (drop 0 t))) ≡ lines_of_sheet (lines_in t)
unfolding lines_of_sheet
count-start t = refl

pub begun_under : Under (2 ^ 36) begun
begun_under = record { s = omega arith; global = omega arith; d = omega arith; p = omega arith; at = omega arith }
