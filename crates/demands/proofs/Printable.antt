-- The columns of a file whose lines meet the rules hold bytes that a line may hold.
use mathlib.Core.Path.{◌≡◌, refl}
use mathlib.Core.Bool.{true}
use mathlib.Core.List.{List}
use Prim.Native.Nat.{ℕ, zero, suc, ◌+◌, ◌-◌, ◌*◌, ◌≤◌, ◌<◌}
use native.Mathlib.Nat.{zero-add}
use native.Mathlib.Omega.{arith}
use lib.ListN.{length, get_or, take, drop}
use lib.Dec.{eqb}
use Rattle.columns.specs.Columns.{columns, printable, line_at, text_of}
use Rattle.columns.proofs.Columns.{columns_of, line-columns, length-columns, length-line}
use Rattle.columns.proofs.Looks.{print_both, print_columns}
use Rattle.columns.proofs.Tests.{both_right}
use Rattle.cards.specs.declared.Counts.{Counts}
use Rattle.cards.specs.Cards.{line_ok, total}
use Rattle.cards.specs.Rules.{Meets}

module _ (f : List ℕ) (c : Counts) (m : Meets f c) where
  -- columns 1-80 of a line
  pub line_prints : (k a b : ℕ) → k < total c → a ≤ b → b ≤ 80 → printable (columns (line_at f k) a b) ≡ true
  unfolding line_ok
  line_prints k a b h l w =
      let whole : printable (columns (line_at f k) 0 80) ≡ true = both_right (eqb (get_or (line_at f k) 80 0) 10) (printable (columns (line_at f k) 0 80)) (m.line k h).ok in
      let e : columns (columns (line_at f k) 0 80) a b ≡ columns (line_at f k) a b = rw (zero-add a, zero-add b) at (columns_of (line_at f k) 0 80 a b l (omega arith)) in
      rw e at (print_columns (columns (line_at f k) 0 80) a b whole)

  -- a line has its columns
  pub line_wide : (k a b : ℕ) → k < total c → a ≤ b → b ≤ 80 → length (columns (line_at f k) a b) ≡ b - a
  line_wide k a b h l w =
      let whole : length (line_at f k) ≡ 81 = length-line f k (omega (arith, m.holds.size)) in
      length-columns (line_at f k) a b l (omega arith)

  -- the first columns of a line where they stand in the file
  line_first : (k w : ℕ) → w ≤ 80 → columns (line_at f k) 0 w ≡ take w (drop (81 * k) f)
  unfolding columns
  line_first k w h =
      let e : 81 * k + w - (81 * k + 0) ≡ w = omega arith in
      let z : 81 * k + 0 ≡ 81 * k = omega arith in
      rw (e, z) at (line-columns f k 0 w (omega arith) (omega arith))

  -- columns of lines joined
  pub text_prints : (n k w : ℕ) → k + n ≤ total c → w ≤ 80 → printable (text_of f (81 * k) w n) ≡ true
  unfolding text_of printable
  text_prints zero k w h l = refl
  text_prints (suc n) k w h l =
      let e : 81 * k + 81 ≡ 81 * (k + 1) = omega arith in
      print_both (take w (drop (81 * k) f)) (text_of f (81 * k + 81) w n) (rw (line_first k w l) at (line_prints k 0 w (omega arith) (omega arith) l))
      (rw e (text_prints n (k + 1) w (omega arith) l))
