-- The start texts of a file whose lines meet the rules.
use mathlib.Core.Path.{◌≡◌, refl, ap}
use mathlib.Core.Bool.{Bool, true, false, cond, not, ◌&&◌}
use mathlib.Core.List.{List, [], ◌∷◌}
use Prim.Native.Nat.{ℕ, suc, ◌-◌, ◌≤◌, ◌<◌}
use native.Mathlib.Omega.{arith}
use lib.ListN.{length, get_or, length-map}
use lib.Dec.{leb, eqb}
use borrow.Author.Tests.{le-leb, leb-true}
use Rattle.columns.specs.Columns.{columns, printable, line_at}
use Rattle.columns.specs.First.{up_from}
use Rattle.columns.specs.Trim.{trim_onto, trim_end}
use Rattle.columns.proofs.First.{length_up_from}
use Rattle.columns.proofs.Looks.{print_cons}
use Rattle.columns.proofs.Tests.{both, both_true}
use Rattle.cards.specs.declared.Counts.{Counts}
use Rattle.cards.specs.Rules.{Meets}
use Rattle.sheets.specs.Sheet.{is_start}
use Rattle.sheets.specs.WellFormed.{Each}
use Rattle.model.specs.Read.{is_blank, start_text, starts_in}
use Rattle.model.specs.Fit.{Start}
use Rattle.sheets.proofs.Each.{each_made, each_up}
use Rattle.demands.proofs.Printable.{line_prints, line_wide}

-- ---- a text without trailing blanks

-- printable, no longer than the text, and no blank at its end
record Trimmed (n : ℕ) (t : List ℕ) : Type 0 where
  short : length t ≤ n
  plain : printable t ≡ true
  ends : eqb (get_or t (length t - 1) 0) 32 ≡ false

onto : (x n : ℕ) (t : List ℕ) → 32 ≤ x → x ≤ 126 → Trimmed n t → Trimmed (suc n) (trim_onto is_blank x t)
unfolding printable
onto x n [] lo hi r = pick (eqb x 32) refl
  where
    pick : (b : Bool) → eqb x 32 ≡ b → Trimmed (suc n) (cond b [] (x ∷ []))
    pick true e = record { short = omega arith; plain = refl; ends = refl }
    pick false e = record { short = omega arith; plain = print_cons x [] lo hi refl; ends = e }
onto x n (y ∷ ys) lo hi r =
    let a : suc (suc (length ys)) - 1 ≡ suc (length ys) = omega arith in
    let b : suc (length ys) - 1 ≡ length ys = omega arith in
    record { short = omega (arith, r.short); plain = print_cons x (y ∷ ys) lo hi r.plain; ends = rw a (rw b at r.ends) }

trims : (t : List ℕ) → printable t ≡ true → Trimmed (length t) (trim_end is_blank t)
unfolding printable
trims [] h = record { short = omega arith; plain = refl; ends = refl }
trims (x ∷ xs) h =
    let p = both (leb 32 x) (leb x 126 && printable xs) h in
    let q = both (leb x 126) (printable xs) p.1 in
    onto x (length xs) (trim_end is_blank xs) (leb-true 32 x p.0) (leb-true x 126 q.0) (trims xs q.1)

start_is : (t : List ℕ) → length t ≡ 72 → printable t ≡ true → is_start (trim_end is_blank t) ≡ true
unfolding is_start
start_is t l h =
    let r = trims t h in
    both_true (le-leb (length (trim_end is_blank t)) 72 (omega (arith, r.short))) (both_true (ap not r.ends) r.plain)

-- ---- of the file

module _ (f : List ℕ) (c : Counts) (m : Meets f c) where
  start-text : (k : ℕ) → k < c.s → Start (start_text f k)
  start-text k h = start_is (columns (line_at f k) 0 72) (line_wide f c m k 0 72 (omega arith) (omega arith) (omega arith)) (line_prints f c m k 0 72 (omega arith) (omega arith) (omega arith))

  pub starts_fit : Each Start (starts_in f c)
  unfolding starts_in
  starts_fit = each_made (start_text f) (λ k h. h) (each_up (λ (k : ℕ). Start (start_text f k)) c.s 0 (λ j lo hi. start-text j (omega arith)))

  pub starts_some : 0 < length (starts_in f c)
  unfolding starts_in
  starts_some = rw (length-map (up_from 0 c.s) (start_text f), length_up_from c.s 0) m.holds.has_s
