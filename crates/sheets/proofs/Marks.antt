-- A line by its mark: what holds of what each kind of line says holds of what any line says. Assumes nothing.
use mathlib.Core.Path.{◌≡◌, refl}
use mathlib.Core.Bool.{Bool, true, false, cond, ◌||◌}
use mathlib.Core.List.{List, [], ◌∷◌}
use Prim.Native.Nat.{ℕ, ◌≤◌}
use native.Mathlib.Omega.{arith}
use lib.ListN.{length, get_or, drop}
use lib.Dec.{eqb}
use borrow.Author.Tests.{eqb-true}
use Rattle.columns.proofs.Tests.{cond_cases}
use Rattle.values.specs.Strict.{strict_of}
use Rattle.sheets.specs.declared.Said.{Said}
use Rattle.sheets.specs.declared.Said.TheVariants.{Start, Last, Nothing}
use Rattle.sheets.specs.Plain.{plain_of, is_plain}
use Rattle.sheets.specs.Line.{entry_of}
use Rattle.sheets.specs.Sheet.{is_mark, is_start, start_line, global_line, entry_line_of, value_of, last_line, by_mark, says_of}

-- a line begins with this mark and a tab
pub record Marked (l : List ℕ) (b : ℕ) : Type 0 where
  pub mark : get_or l 0 0 ≡ b
  pub tab : get_or l 1 0 ≡ 9

-- so it has them
pub marked_long : (l : List ℕ) {b : ℕ} → Marked l b → 2 ≤ length l
marked_long [] m = absurd (omega (arith, m.tab))
marked_long (a ∷ []) m = absurd (omega (arith, m.tab))
marked_long (a ∷ (b ∷ l)) m = omega arith

module _ (P : Said → Type 0) (l : List ℕ) (nothing : (b : Bool) → P (Nothing b)) (start : Marked l 83 → is_start (drop 2 l) ≡ true → P Start)
    (global : Marked l 71 → P (global_line (drop 2 l))) (entry : (known : Bool) → Marked l (cond known 69 85) → P (entry_line_of (entry_of l)))
    (value : (reference : Bool) → Marked l (cond reference 82 86) → P (value_of reference (strict_of (drop 2 l))))
    (last : Marked l 90 → is_plain (drop 2 l) ≡ true → P (Last (plain_of (drop 2 l)))) where
  by-mark : get_or l 1 0 ≡ 9 → P (by_mark (get_or l 0 0) l (drop 2 l))
  unfolding by_mark start_line last_line
  by-mark t =
      cond_cases P (eqb b 83) _ _ (λ e. cond_cases P (is_start (drop 2 l)) Start (Nothing false) (start (is 83 e)) (λ _. nothing false))
      (λ _. cond_cases P (eqb b 71) _ _ (λ e. global (is 71 e))
      (λ _. cond_cases P (eqb b 69 || eqb b 85) _ _ (by-entry (eqb b 69) refl)
      (λ _. cond_cases P (eqb b 82) _ _ (λ e. value true (is 82 e))
      (λ _. cond_cases P (eqb b 86) _ _ (λ e. value false (is 86 e))
      (λ _. cond_cases P (eqb b 90) _ _ (λ e. cond_cases P (is_plain (drop 2 l)) (Last (plain_of (drop 2 l))) (Nothing false) (last (is 90 e)) (λ _. nothing false))
      (λ _. nothing false))))))
    where
      b : ℕ
      b = get_or l 0 0

      is : (m : ℕ) → eqb b m ≡ true → Marked l m
      is m e = record { mark = eqb-true b m e; tab = t }

      by-entry : (x : Bool) → eqb b 69 ≡ x → x || eqb b 85 ≡ true → P (entry_line_of (entry_of l))
      by-entry true e h = entry true (is 69 e)
      by-entry false e h = entry false (is 85 h)

  pub says_each : P (says_of l)
  unfolding says_of
  says_each = cond_cases P (eqb (get_or l 1 0) 9) _ _ (λ e. by-mark (eqb-true (get_or l 1 0) 9 e)) (λ _. nothing (is_mark (get_or l 0 0)))
