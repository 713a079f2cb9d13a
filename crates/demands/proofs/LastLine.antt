-- The last line of a sheet is Z with the count of its entries. Assumes nothing.
use mathlib.Core.Path.{◌≡◌, sym, ap}
use mathlib.Core.Bool.{Bool, false}
use mathlib.Core.List.{List, [], ◌∷◌, ◌++◌}
use Prim.Native.Nat.{ℕ, ◌+◌, ◌*◌}
use native.Mathlib.Nat.{add-zero}
use native.Mathlib.Omega.{arith}
use lib.ListN.{length, drop, length-append}
use Rattle.values.specs.Value.{Item}
use Rattle.sheets.specs.Plain.{sized}
use Rattle.sheets.specs.Sheet.{Row, Sheet, Line, start, global, entry, value, last, start_lines, global_lines, value_lines, row_lines, lines_of}
use Rattle.demands.specs.Impostors.{EndsWith}

-- so do those with one more in front
before : (l : Line) {ks : List Line} {n : ℕ} → EndsWith ks n → EndsWith (l ∷ ks) n
before l e = (l ∷ e.0, ap (λ (ks : List Line). l ∷ ks) e.1)

value-lines : (vs : List (Bool × Item)) {ks : List Line} {n : ℕ} → EndsWith ks n → EndsWith (value_lines vs ks) n
unfolding value_lines
value-lines [] e = e
value-lines (v ∷ vs) e = before (value v.0 v.1) (value-lines vs e)

row-lines : (k : ℕ) (rs : List Row) → EndsWith (row_lines k rs) (k + length rs)
unfolding row_lines
row-lines k [] = ([], ap (λ (n : ℕ). last n ∷ []) (sym (add-zero k)))
row-lines k (r ∷ rs) =
    let n : k + 1 + length rs ≡ k + length (r ∷ rs) = omega arith in
    before (entry r.known (sized false (2 * k + 1)) r.fields r.label) (value-lines r.values (rw n at (row-lines (k + 1) rs)))

global_lines_lem : (gs : List (ℕ × Item)) {ks : List Line} {n : ℕ} → EndsWith ks n → EndsWith (global_lines gs ks) n
unfolding global_lines
global_lines_lem [] e = e
global_lines_lem (g ∷ gs) e = before (global g.0 g.1) (global_lines_lem gs e)

start-lines : (ts : List (List ℕ)) {ks : List Line} {n : ℕ} → EndsWith ks n → EndsWith (start_lines ts ks) n
unfolding start_lines
start-lines [] e = e
start-lines (t ∷ ts) e = before (start t) (start-lines ts e)

pub last_line_lem : (s : Sheet) → EndsWith (lines_of s) (length s.rows)
unfolding lines_of
last_line_lem s =
    let n : 0 + length s.rows ≡ length s.rows = omega arith in
    start-lines s.starts (global_lines_lem s.globals (rw n at (row-lines 0 s.rows)))

-- a text has one last line
pub one_last : (ls ms : List Line) (n k : ℕ) → ls ++ (last n ∷ []) ≡ ms ++ (last k ∷ []) → n ≡ k
one_last [] [] n k e = cc
one_last [] (m ∷ ms) n k e = let z : length (◌++◌ {A = Line} [] (last n ∷ [])) ≡ length ((m ∷ ms) ++ (last k ∷ [])) = ap length e in absurd (omega (arith, length-append ms (last k ∷ [])))
one_last (l ∷ ls) [] n k e = let z : length ((l ∷ ls) ++ (last n ∷ [])) ≡ length (◌++◌ {A = Line} [] (last k ∷ [])) = ap length e in absurd (omega (arith, length-append ls (last n ∷ [])))
one_last (l ∷ ls) (m ∷ ms) n k e = one_last ls ms n k (ap (λ (ks : List Line). drop 1 ks) e)
