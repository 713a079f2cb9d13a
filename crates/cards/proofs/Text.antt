-- The joined text of lines: what it is in a file that was put together.
use mathlib.Core.Path.{◌≡◌, refl, sym, ◌∙◌}
use Prim.Native.Nat.{ℕ, suc, ◌+◌, ◌-◌, ◌*◌, ◌≤◌, ◌<◌}
use native.Mathlib.Nat.{add-zero, sub-zero}
use native.Mathlib.Omega.{arith}
use mathlib.Core.List.{List, [], ◌∷◌}
use lib.ListN.{length, get_or, take, drop}
use lib.Seq.{take_all}
use Rattle.columns.specs.Columns.{columns, line_at, text_of}
use Rattle.columns.proofs.Columns.{line-columns}
use Rattle.cards.specs.Cards.{total}
use Rattle.cards.specs.Written.{Body, Bodies, counts_of, file_of}
use Rattle.columns.specs.Columns.{joined}
use Rattle.columns.specs.Format.{most_lines}
use Rattle.cards.proofs.Round.{body_of, g-columns, p-columns}

-- the first w columns of line k, as they stand in the file
first_columns : (f : List ℕ) (k w : ℕ) → w ≤ 81 → take w (drop (81 * k) f) ≡ columns (line_at f k) 0 w
unfolding columns
first_columns f k w h =
    let (a, b) : (81 * k + w - (81 * k + 0) ≡ w) × (81 * k + 0 ≡ 81 * k) = (omega arith, omega arith) in
    sym (line-columns f k 0 w (omega arith) h ∙ (rw (a, b)))

-- the text of lines that have these columns
pub text-of : (f : List ℕ) (w : ℕ) → w ≤ 81 → (xs : List (List ℕ)) (k : ℕ) → ((i : ℕ) → i < length xs → columns (line_at f (k + i)) 0 w ≡ get_or xs i []) → text_of f (81 * k) w (length xs) ≡ joined xs
unfolding text_of joined
text-of f w narrow [] k h = refl
text-of f w narrow (x ∷ xs) k h =
    let e : 81 * k + 81 ≡ 81 * (k + 1) = omega arith in
    rw (first_columns f k w narrow, first, e, text-of f w narrow xs (k + 1) (λ i l. shift i (h (suc i) (omega arith))))
  where
    first : columns (line_at f k) 0 w ≡ x
    first = rw (add-zero k) at (h 0 (omega arith))

    shift : (i : ℕ) → columns (line_at f (k + suc i)) 0 w ≡ get_or xs i [] → columns (line_at f (k + 1 + i)) 0 w ≡ get_or xs i []
    shift i e =
        let x : k + 1 + i ≡ k + suc i = omega arith in
        rw x e

pub whole : (x : List ℕ) → Body x → columns x 0 72 ≡ x
unfolding columns
whole x b = rw sub-zero (take_all 72 x (omega (arith, b.wide)))

module _ (S G D P : List (List ℕ)) (bs : Bodies S) (bg : Bodies G) (bd : Bodies D) (bp : Bodies P) (few : total (counts_of S G D P) ≤ most_lines) where
  -- the text of the G section that was written
  pub g-text : text_of (file_of S G D P) (81 * length S) 72 (length G) ≡ joined G
  g-text = text-of (file_of S G D P) 72 (omega arith) G (length S) (λ i h. g-columns S G D P bs bg bd bp few i 0 72 (omega arith) (omega arith) h ∙ whole (get_or G i []) (body_of bg i h))

  -- the text of P lines that were written, from the j-th on, where xs are their first 64 columns
  pub p-text : (j : ℕ) (xs : List (List ℕ)) → j + length xs ≤ length P → ((i : ℕ) → i < length xs → columns (get_or P (j + i) []) 0 64 ≡ get_or xs i [])
      → text_of (file_of S G D P) (81 * (length S + length G + length D + j)) 64 (length xs) ≡ joined xs
  p-text j xs room same = text-of (file_of S G D P) 64 (omega arith) xs (length S + length G + length D + j) (λ i h.
      let e : length S + length G + length D + j + i ≡ length S + length G + length D + (j + i) = omega arith in
      rw e (p-columns S G D P bs bg bd bp few (j + i) 0 64 (omega arith) (omega arith) (omega arith) ∙ same i h))
