-- The ends of lines, one after the other. Assumes nothing.
use mathlib.Core.Path.{◌≡◌}
use mathlib.Core.List.{List, [], ◌++◌}
use Prim.Native.Nat.{ℕ, suc, ◌+◌, ◌-◌, ◌≤◌, ◌<◌}
use native.Mathlib.Nat.{add-zero}
use native.Mathlib.Omega.{arith}
use Rattle.columns.specs.Laid.{Wrote}
use Rattle.columns.proofs.Writes.{wrote_length}
use Rattle.file_blocks.specs.Blocks.{tail_of}
use Rattle.file_blocks.specs.Writing.{tailed}

pub tails_start : (o : List ℕ) (q : ℕ) (m : List ℕ) (b n lines : ℕ) → tailed o q m b (n + 0) (lines - 0) ≡ tailed o q m b n lines
tails_start o q m b n lines = let e : lines - 0 ≡ lines = omega arith in rw (add-zero, e)

module _ {o : List ℕ} (at : ℕ) (m : List ℕ) (b n i lines : ℕ) {f : List ℕ} (inv : tailed o at m b (n + i) (lines - i) ≡ f) where
  pub tails_more : {o1 : List ℕ} {r : ℕ} → i < lines → Wrote o at (m ++ tail_of b (n + i)) o1 r → tailed o1 (at + 81) m b (n + (i + 1)) (lines - (i + 1)) ≡ f
  unfolding tailed
  tails_more {o1} h w =
      let e : lines - i ≡ suc (lines - (i + 1)) = omega arith in
      let d : n + (i + 1) ≡ n + i + 1 = omega arith in
      rw (d, w.bytes) (rw e at inv)

  pub tails_end : lines ≤ i → o ≡ f
  unfolding tailed
  tails_end h =
      let e : lines - i ≡ 0 = omega arith in
      rw e at inv

-- no columns stand before the letter
pub plain_more : {o : List ℕ} (at b n i lines : ℕ) {f : List ℕ} → tailed o at [] b (n + i) (lines - i) ≡ f → {o1 : List ℕ} {r : ℕ} → i < lines → Wrote o at (tail_of b (n + i)) o1 r
    → tailed o1 (at + 81) [] b (n + (i + 1)) (lines - (i + 1)) ≡ f
plain_more at b n i lines inv h w = tails_more at [] b n i lines inv h w

pub ruleset tailing = (tails_start, tails_more, tails_end, plain_more, wrote_length)
