-- What the pass over a sheet's lines is asked.
use mathlib.Core.Path.{◌≡◌, refl, sym, ap, ◌∙◌}
use mathlib.Core.Bool.{Bool, true, false}
use mathlib.Core.List.{List, [], ◌∷◌}
use Prim.Native.Nat.{ℕ, suc, ◌+◌, ◌-◌, ◌≤◌, ◌<◌}
use native.Mathlib.Omega.{arith}
use native.Mathlib.Decide.{ℕ_discrete}
use lib.ListN.{length, take, drop, length-drop}
use lib.Seq.{drop-drop}
use borrow.Author.Tests.{eq-eqb, ne_eqb}
use Rattle.std.proofs.Common.{Err, Ok, Option, Some, None}
use Rattle.columns.specs.Columns.{columns}
use Rattle.sheets.specs.declared.SheetState.{SheetState}
use Rattle.sheets.specs.Line.{run}
use Rattle.values.specs.Value.{is_default}
use Rattle.values.proofs.OneSpelling.{missing}
use Rattle.columns.specs.declared.SheetLine.{SheetLine}
use Rattle.sheets.specs.declared.Said.{Said}
use Rattle.sheets.specs.declared.Said.TheVariants.{Start, Global, Entry, Value as Given, Last, Nothing}
use Rattle.sheets.specs.Sheet.{Line, start, global, entry, value, last, none, line_from, into, pieces_of, says_of, said_by, said_by_all, lines_in}
use Rattle.sheets.specs.Order.{sheet_line, closed, value_step, none_step, step_line, finish, SheetStep, unless}
use Rattle.sheets.specs.Reading.{step_said, piece_verdict}
use Rattle.sheets.proofs.Plains.{run-here, run_on}
use Rattle.sheets.proofs.Says.{pieces_lf, pieces_on, pieces_none, pieces_some, lines_more}
use Rattle.sheets.proofs.Takes.{start_inv, global_inv, entry_inv, value_inv, last_inv, none_inv}

-- ---- the end
module _ (st : SheetState) where
  pub finish_good : st.section ≡ 4 → Ok st.entries ≡ finish st
  unfolding finish
  finish_good h = simp (eq-eqb _ _ h)

  module _ (h : st.section ≡ 4 → ⊥) where
    pub finish-run : (w : SheetLine) → st.run ≡ Some w → Err w ≡ finish st
    unfolding finish closed
    finish-run w k = simp (ne_eqb _ _ h, k)

    pub finish_soon : st.run ≡ None → Err (sheet_line (st.line + 1)) ≡ finish st
    unfolding finish closed
    finish_soon k = simp (ne_eqb _ _ h, k)

  module _ (b : Bool) (x : SheetStep) (q : x ≡ none_step st b) where
    pub piece-on : (y : SheetState) → x ≡ Ok y → Ok y.entries ≡ piece_verdict st b
    piece-on y e = rw (← q, e)

    pub piece-off : (w : SheetLine) → x ≡ Err w → Err w ≡ piece_verdict st b
    piece-off w e = rw (← q, e)

pub ruleset ends = (finish_good, finish-run, finish_soon, piece-on, piece-off)

-- ---- pieces of a text
pieces_first : (t : List ℕ) → run 10 t < length t → pieces_of t ≡ take (run 10 t) t ∷ pieces_of (drop (suc (run 10 t)) t)
unfolding run into
pieces_first [] h = absurd (omega arith)
pieces_first (b ∷ bs) h = pick (ℕ_discrete b 10) (pieces_first bs)
  where
    pick : Dec (b ≡ 10) → (run 10 bs < length bs → pieces_of bs ≡ take (run 10 bs) bs ∷ pieces_of (drop (suc (run 10 bs)) bs)) → pieces_of (b ∷ bs) ≡ take (run 10 (b ∷ bs)) (b ∷ bs) ∷ pieces_of (drop (suc (run 10 (b ∷ bs))) (b ∷ bs))
    pick (yes e) ih = rw (run-here 10 b bs e) (pieces_lf b bs e)
    pick (no e) ih = rw (run_on 10 b bs e) (pieces_on b bs e ∙ rw (ih (omega (arith, run_on 10 b bs e))))

-- a text with no LF is one piece
pub pieces_whole : (t : List ℕ) → length t ≤ run 10 t → pieces_of t ≡ t ∷ []
unfolding run into
pieces_whole [] h = pieces_none
pieces_whole (b ∷ bs) h = pick (ℕ_discrete b 10) (pieces_whole bs)
  where
    pick : Dec (b ≡ 10) → (length bs ≤ run 10 bs → pieces_of bs ≡ bs ∷ []) → pieces_of (b ∷ bs) ≡ (b ∷ bs) ∷ []
    pick (yes e) ih = absurd (omega (arith, run-here 10 b bs e))
    pick (no e) ih = pieces_on b bs e ∙ rw (ih (omega (arith, run_on 10 b bs e)))

pub none-off : (st : SheetState) (b : Bool) → (w : SheetLine) × (none_step st b ≡ Err w)
unfolding none_step closed
none-off st true = (sheet_line (st.line + 1), refl)
none-off st false = pick st.run
  where
    pick : (r : Option SheetLine) → (w : SheetLine) × ◌≡◌ {A = SheetStep} (unless r (Err (sheet_line (st.line + 1)))) (Err w)
    pick None = (sheet_line (st.line + 1), refl)
    pick (Some w) = (w, refl)

-- the step of a line by what was read of it
pub step-said : (st : SheetState) (x : Said) (l : List ℕ) → step_said st x ≡ step_line st (line_from l x)
step-said st Start l = refl
step-said st (Global n at v) l = refl
step-said st (Entry known n x) l = refl
step-said st (Given reference v) l = ap (value_step st) (sym (missing (drop 2 l) v))
step-said st (Last n) l = refl
step-said st (Nothing b) l = refl

-- a line says what was read of it
pub line_says : (l : List ℕ) (x : Said) → x ≡ says_of l → said_by l ≡ line_from l x
unfolding said_by
line_says l x e = ap (line_from l) (sym e)

cut : (t : List ℕ) (at e : ℕ) → take (e - at) (drop at t) ≡ columns t at e
unfolding columns
cut t at e = refl

-- the lines of a text from a place on: the line there, and the others
pub lines_first : (t : List ℕ) (at e : ℕ) → at ≤ e → e < length t → e ≡ at + run 10 (drop at t) → lines_in (drop at t) ≡ said_by (columns t at e) ∷ lines_in (drop (e + 1) t)
unfolding lines_in
lines_first t at e lo hi en =
    let r : run 10 (drop at t) ≡ e - at = omega arith in
    let k : at + suc (e - at) ≡ e + 1 = omega arith in
    let l : length (drop at t) ≡ length t - at = length-drop at t in
    let w : run 10 (drop at t) < length (drop at t) = rw (l, r) (omega arith) in
    let c : take (e - at) (drop at t) ≡ columns t at e = cut t at e in
    ap said_by_all (pieces_first (drop at t) w) ∙ rw (r, c, drop-drop (suc (e - at)) at t, k) (lines_more (columns t at e) (pieces_of (drop (e + 1) t)) (pieces_some (drop (e + 1) t)))

-- one line more, and at most one entry more
sizes : (st y : SheetState) (i : Line) → step_line st i ≡ Ok y → (y.line ≡ st.line + 1) × (y.entries ≤ st.entries + 1)
sizes st y (start t) e = rw (start_inv st y e).2 (omega arith)
sizes st y (global m v) e = rw (global_inv st y m e).4 (omega arith)
sizes st y (entry known x d label) e = rw (entry_inv st y x e).4 (omega arith)
sizes st y (value b v) e = rw (value_inv st y (is_default v) e).1 (omega arith)
sizes st y (last m) e = rw (last_inv st y m e).4 (omega arith)
sizes st y (none b) e = absurd (none_inv st y b e)

pub line_sizes : (st y : SheetState) (d : Said) → step_said st d ≡ Ok y → (y.line ≡ st.line + 1) × (y.entries ≤ st.entries + 1)
line_sizes st y d e = sizes st y (line_from [] d) (sym (step-said st d []) ∙ e)
