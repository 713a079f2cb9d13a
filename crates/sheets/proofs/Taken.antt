-- The machine over the lines takes the lines of a sheet that is in order.
use mathlib.Core.Path.{◌≡◌, refl, ap, ◌∙◌}
use mathlib.Core.Bool.{Bool, false, cond}
use mathlib.Core.List.{List, [], ◌∷◌}
use Prim.Native.Nat.{ℕ, suc, ◌+◌, ◌*◌, ◌≤◌, ◌<◌}
use native.Mathlib.Omega.{arith}
use lib.ListN.{length}
use borrow.Author.Tests.{le-leb, lt-ltb, eq-eqb}
use Rattle.std.proofs.Common.{Ok, Option, Some, None, unwrap_or}
use Rattle.columns.specs.declared.SheetLine.{SheetLine}
use Rattle.sheets.specs.declared.SheetState.{SheetState}
use Rattle.sheets.specs.Plain.{sized}
use Rattle.values.specs.Value.{Item, is_default}
use Rattle.sheets.specs.Sheet.{Line, value, last, Row, Sheet, start_lines, global_lines, value_lines, row_lines, lines_of}
use Rattle.sheets.specs.Order.{begin, closed, start_step, global_step, entry_step, value_step, last_step, step_line, finish, go_lines, SheetVerdict, sheet_line}
use Rattle.sheets.specs.WellFormed.{ends_default, Rising, no_more, higher, Closed, no_rows, a-row, Ordered}

go_on : (st st' : SheetState) (i : Line) (is : List Line) → step_line st i ≡ Ok st' → go_lines st (i ∷ is) ≡ go_lines st' is
unfolding go_lines
go_on st st' i is e = rw (go_lines, e)

abbrev at : ℕ → ℕ → ℕ → Option SheetLine → ℕ → SheetState
at section g k run line = record { section = section; field = g; entries = k; run = run; line = line }

go_end : (g k line : ℕ) → go_lines (at 4 g k None line) [] ≡ Ok k
unfolding go_lines finish
go_end g k line = refl

module _ (section g k line : ℕ) where
  start-on : section ≤ 1 → start_step (at section g k None line) ≡ Ok (at 1 g k None (line + 1))
  unfolding start_step closed
  start-on h = simp (le-leb _ _ h)

  global_on : (n : ℕ) → 1 ≤ section → section ≤ 2 → g < n → global_step (at section g k None line) n ≡ Ok (at 2 n k None (line + 1))
  unfolding global_step closed
  global_on n l h r = simp (le-leb _ _ l, le-leb _ _ h, lt-ltb _ _ r)

  entry-on : 1 ≤ section → section ≤ 3 → entry_step (at section g k None line) (sized false (2 * k + 1)) ≡ Ok (at 3 g (k + 1) None (line + 1))
  unfolding entry_step closed
  entry-on l h = simp (le-leb _ _ l, le-leb _ _ h, eq-eqb (2 * k + 1) (2 * k + 1) refl)

  last_on : 1 ≤ section → section ≤ 3 → last_step (at section g k None line) k ≡ Ok (at 4 g k None (line + 1))
  unfolding last_step closed
  last_on l h = simp (le-leb _ _ l, le-leb _ _ h, eq-eqb k k refl)

-- b: whether the values so far may end with a default
values_on : (g k : ℕ) (rest : List Line) (f : SheetVerdict) → ((line : ℕ) → go_lines (at 3 g k None line) rest ≡ f)
    → (vs : List (Bool × Item)) (run : Option SheetLine) (line : ℕ) (b : Bool) → (b ≡ false → run ≡ None) → ends_default b vs ≡ false → go_lines (at 3 g k run line) (value_lines vs rest) ≡ f
unfolding value_lines ends_default value_step
values_on g k rest f q [] run line b h e = rw (h e) (q line)
values_on g k rest f q (v ∷ vs) run line b h e =
    go_on (at 3 g k run line) (at 3 g k (cond (is_default v.1) (Some (unwrap_or run (sheet_line (line + 1)))) None) (line + 1)) (value v.0 v.1) (value_lines vs rest) refl
    ∙ values_on g k rest f q vs _ (line + 1) (is_default v.1) (zeroed (is_default v.1)) e
  where
    zeroed : (c : Bool) → c ≡ false → ◌≡◌ {A = Option SheetLine} (cond c (Some (unwrap_or run (sheet_line (line + 1)))) None) None
    zeroed c d = rw d

rows_on : {rs : List Row} → Closed rs → (section g k line : ℕ) → 1 ≤ section → section ≤ 3 → go_lines (at section g k None line) (row_lines k rs) ≡ Ok (k + length rs)
unfolding row_lines
rows_on no_rows section g k line l h = go_on _ _ (last k) [] (last_on section g k line l h) ∙ go_end g k (line + 1) ∙ ap Ok (omega arith)
rows_on (a-row {r} {rs} e c) section g k line l h =
    go_on _ _ _ _ (entry-on section g k line l h)
    ∙ values_on g (k + 1) (row_lines (k + 1) rs) (Ok (k + suc (length rs))) (λ j. rows_on c 3 g (k + 1) j (omega arith) (omega arith) ∙ ap Ok (omega arith)) r.values None (line + 1) false (λ _. refl) e

globals-on : {gs : List (ℕ × Item)} {n : ℕ} → Rising n gs → (rs : List Row) → Closed rs → (section line : ℕ) → 1 ≤ section → section ≤ 2
    → go_lines (at section n 0 None line) (global_lines gs (row_lines 0 rs)) ≡ Ok (length rs)
unfolding global_lines
globals-on {n = g} no_more rs c section line l h = rows_on c section g 0 line l (omega arith) ∙ ap Ok (omega arith)
globals-on {n = g} (higher {m = n} r q) rs c section line l h =
    go_on _ _ _ _ (global_on section g 0 line n l h r) ∙ globals-on q rs c 2 (line + 1) (omega arith) (omega arith)

starts-on : (ss : List (List ℕ)) (gs : List (ℕ × Item)) (rs : List Row) → Rising 2 gs → Closed rs → (line : ℕ)
    → go_lines (at 1 2 0 None line) (start_lines ss (global_lines gs (row_lines 0 rs))) ≡ Ok (length rs)
unfolding start_lines
starts-on [] gs rs r c line = globals-on r rs c 1 line (omega arith) (omega arith)
starts-on (s ∷ ss) gs rs r c line = go_on _ _ _ _ (start-on 1 2 0 line (omega arith)) ∙ starts-on ss gs rs r c (line + 1)

-- a sheet's lines are in order, and the verdict is how many entries it has
pub sheet-on : (m : Sheet) → Ordered m → go_lines begin (lines_of m) ≡ Ok (length m.rows)
unfolding lines_of start_lines
sheet-on m o = pick m.starts o.some
  where
    pick : (ss : List (List ℕ)) → 0 < length ss → go_lines begin (start_lines ss (global_lines m.globals (row_lines 0 m.rows))) ≡ Ok (length m.rows)
    pick [] h = absurd (omega arith)
    pick (s ∷ ss) h = go_on _ _ _ _ (start-on 0 2 0 0 (omega arith)) ∙ starts-on ss m.globals m.rows o.rising o.closed 1
