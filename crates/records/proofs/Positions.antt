-- Positions of a text in lines of w columns, and their places in the file: those of one line stand side by side. Assumes nothing.
use mathlib.Core.Path.{◌≡◌, refl, ap, ◌∙◌}
use mathlib.Core.List.{List, [], ◌∷◌}
use Prim.Native.Nat.{ℕ, suc, ◌+◌, ◌*◌, ◌/◌, ◌%◌, ◌^◌, ◌≤◌, ◌<◌}
use native.Mathlib.Nat.{div-add-mod', div-eq_of_lt-le}
use native.Mathlib.Omega.{arith}
use lib.ListN.{length, set}
use Rattle.columns.specs.Laid.{laid}
use Rattle.records.specs.Written.{index_of, over}

-- ---- lines of the usual width
module _ (base w p : ℕ) (e : w ≡ 64) where
  pub usual_column : p % 64 ≡ p % w
  usual_column = rw e

  pub usual_index : base + p / 64 * 81 + p % 64 ≡ base + p / w * 81 + p % w
  usual_index = rw e

  pub usual_line_fits : base + p / w * 81 + p % w < 2 ^ 64 → p / 64 * 81 < 2 ^ 64
  usual_line_fits h = omega (arith, usual_index)

  pub usual_start_fits : base + p / w * 81 + p % w < 2 ^ 64 → base + p / 64 * 81 < 2 ^ 64
  usual_start_fits h = omega (arith, usual_index)

  pub usual_fits : base + p / w * 81 + p % w < 2 ^ 64 → base + p / 64 * 81 + p % 64 < 2 ^ 64
  usual_fits h = omega (arith, usual_index)

pub ruleset usual = (usual_column, usual_index, usual_line_fits, usual_start_fits, usual_fits)

-- ---- the next position of the same line
module _ (w p : ℕ) (h : p % w + 1 < w) where
  same_line : suc p / w ≡ p / w
  same_line = div-eq_of_lt-le w (omega (arith, div-add-mod' p w)) (omega (arith, div-add-mod' p w))

  next_column : suc p % w ≡ suc (p % w)
  next_column = omega (arith, div-add-mod' p w, rw same_line at (div-add-mod' (suc p) w))

-- what is laid into one line is laid into the file
pub on_line_lem : (base w : ℕ) (o : List ℕ) (p : ℕ) (bs : List ℕ) → p % w + length bs ≤ w → over base w o p bs ≡ laid o (index_of base w p) bs
unfolding over laid
on_line_lem base w o p [] h = refl
on_line_lem base w o p (b ∷ []) h = refl
on_line_lem base w o p (b ∷ (x ∷ bs)) h =
    let k : p % w + 1 < w = omega arith in
    let e : index_of base w (suc p) ≡ suc (index_of base w p) = rw (same_line w p k, next_column w p k) (omega arith) in
    let l : suc p % w + length (x ∷ bs) ≤ w = rw (next_column w p k) (omega arith) in
    on_line_lem base w (set o (index_of base w p) b) (suc p) (x ∷ bs) l ∙ ap (λ (i : ℕ). laid (set o (index_of base w p) b) i (x ∷ bs)) e
