-- The first walk: the lines from a place on, taken from the state so far, have the verdict of all lines.
use Rattle.std.proofs.Common.{◌≡◌, ℕ, ◌+◌, ◌<◌, ◌≤◌, Bool, List, [], ◌∷◌, length, get_or, drop, replicate, sym, refl, ap, ◌∙◌, arith, Err, Ok}
use Rattle.columns.specs.declared.SheetLine.{SheetLine}
use Rattle.columns.specs.Columns.{columns}
use Rattle.columns.specs.Laid.{laid}
use Rattle.sheets.specs.declared.Said.{Said}
use Rattle.sheets.specs.declared.SheetState.{SheetState}
use Rattle.sheets.specs.Line.{run}
use Rattle.sheets.specs.Sheet.{Line, none, is_mark, says_of, said_by, lines_in}
use Rattle.sheets.specs.Order.{begin, step_line, verdict, finish, go_lines, verdict_of, SheetStep, SheetVerdict}
use Rattle.sheets.specs.Reading.{step_said, piece_verdict}
use Rattle.sheets.proofs.Walk.{lines_first, none-off, step-said, line_says, line_sizes}
use Rattle.file_canonical.specs.declared.Tally.{Tally}
use Rattle.file_canonical.specs.Counting.{within, lines_of_sheet, Lines}
use Rattle.write_lines.specs.Lines.{OfGlobal, OfRow, or_else, lines_pass, SheetPass}
use Rattle.write_lines.specs.Classes.{classes_in, table_size, Tabled}
use Rattle.write_lines.specs.Passes.{rules_pass}
use Rattle.write_check.specs.Answers.{IfGood}
use Rattle.write_lines.proofs.Lines.{piece-line, lines_none}
use Rattle.write_lines.proofs.Tables.{filled}
use Rattle.write_check.proofs.Checking.{good_count}

-- what holds holds where the lines are good
pub if_good : {A : Type 0} (v : SheetVerdict) → A → IfGood v A
if_good v a = record { so = λ n e. a }

pub if_wrong : {A : Type 0} (w : SheetLine) → IfGood (Err w) A
if_wrong w = record { so = λ n e. let k : ◌≡◌ {A = ℕ} 0 1 = cc in absurd (omega arith) }

step_line_lem : (st : SheetState) (l : List ℕ) (x : SheetStep) (y : Said) → y ≡ says_of l → x ≡ step_said st y → x ≡ step_line st (said_by l)
step_line_lem st l x y d p = p ∙ step-said st y l ∙ ap (step_line st) (sym (line_says l y d))

-- f is the verdict
module _ (f : SheetVerdict) (t : List ℕ) (st : SheetState) (at n : ℕ) (inv : go_lines st (lines_in (drop at t)) ≡ f) (all : n ≡ length t) where
  pub go_end : (r : SheetVerdict) → n ≤ at → r ≡ finish st → r ≡ f
  unfolding go_lines
  go_end r h q = q ∙ (rw (lines_none t at (omega arith)) at inv)

  module _ (e : ℕ) (lt : at < n) (lo : at ≤ e) (hi : e ≤ length t) (en : e ≡ at + run 10 (drop at t)) where
    pub go_piece : (r : SheetVerdict) (b : Bool) → e ≡ n → b ≡ is_mark (get_or t at 0) → r ≡ piece_verdict st b → r ≡ f
    unfolding go_lines
    go_piece r b h p q =
        let o = none-off st (is_mark (get_or t at 0)) in
        let i : go_lines st (none (is_mark (get_or t at 0)) ∷ []) ≡ f = rw (piece-line t at (omega arith) (omega arith)) at inv in
        q ∙ ap (piece_verdict st) p ∙ ap verdict o.1 ∙ (rw (go_lines, o.1) at i)

    module _ (x : SheetStep) (y : Said) (h : e ≡ n → ⊥) (d : y ≡ says_of (columns t at e)) (p : x ≡ step_said st y) where
      gone : elim x [ Ok st' ↦ go_lines st' (lines_in (drop (e + 1) t)) | Err w ↦ Err w ] ≡ f
      unfolding go_lines
      gone = rw (step_line_lem st (columns t at e) x y d p) (rw (lines_first t at e lo (omega arith) en) at inv)

      pub go_on : (z : SheetState) → x ≡ Ok z → go_lines z (lines_in (drop (e + 1) t)) ≡ f
      go_on z q = rw q at gone

      pub go_off : (w : SheetLine) → x ≡ Err w → Err w ≡ f
      go_off w q = rw q at gone

pub go_start : (t : List ℕ) → go_lines begin (lines_in (drop 0 t)) ≡ verdict_of t
unfolding verdict_of
go_start t = refl

module _ (st y : SheetState) (d : Said) (x : SheetStep) (p : x ≡ step_said st d) (q : x ≡ Ok y) where
  pub next_place : y.line ≡ st.line + 1
  next_place = (line_sizes st y d (sym p ∙ q)).0

  pub next-line : (at e : ℕ) → st.line ≤ at → at ≤ e → y.line ≤ e + 1
  next-line at e h k = omega (arith, line_sizes st y d (sym p ∙ q))

  pub next-entries : st.entries ≤ st.line → y.entries ≤ y.line
  next-entries h = omega (arith, line_sizes st y d (sym p ∙ q))

  -- what is asked from the next line on is asked at its place
  pub next-asked : (g : OfGlobal) (f : OfRow) (p r : SheetPass) (ls : List Line) → or_else p (lines_pass g f (st.line + 1 + 1) ls) ≡ r → or_else p (lines_pass g f (y.line + 1) ls) ≡ r
  next-asked g f p r ls h = rw next_place h

-- ---- behind the walk

module _ (v : SheetVerdict) (n : ℕ) (e : v ≡ Ok n) (t : List ℕ) where
  pub walked_rules : (p : SheetPass) → IfGood v (p ≡ rules_pass t) → p ≡ rules_pass t
  walked_rules p h = h.so n e

  pub walked_table : (m : ℕ) (c : List ℕ) → v ≡ verdict_of t → m ≡ table_size → IfGood v (c ≡ laid (replicate m 0) 0 (classes_in (lines_in t))) → Tabled c n t
  walked_table m c ev em h = filled m c n t em (h.so n e) (good_count t v n ev e) (sym ev ∙ e)

  pub walked_lines : (x : Tally) (k : Lines) → IfGood v (within x ≡ lines_of_sheet (lines_in t)) → k ≡ within x → k ≡ lines_of_sheet (lines_in t)
  walked_lines x k h q = q ∙ h.so n e

pub ruleset walked = (walked_rules, walked_table, walked_lines)

pub ruleset ordering = (go_end, go_piece, go_on, go_off, go_start, next-line, next-entries, next-asked)
