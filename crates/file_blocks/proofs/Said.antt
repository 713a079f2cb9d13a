-- The value of a G line can be written. And the lines from a place on. Assumes nothing.
use mathlib.Core.Path.{◌≡◌, sym, ◌∙◌}
use mathlib.Core.List.{List}
use Prim.Native.Nat.{ℕ, ◌+◌, ◌-◌, ◌≤◌}
use native.Mathlib.Omega.{arith}
use lib.ListN.{length, take, drop, length-drop}
use Rattle.columns.specs.Columns.{columns}
use Rattle.columns.proofs.Columns.{length-columns}
use Rattle.values.specs.declared.Value.{Value}
use Rattle.records.specs.Reading.{Writable}
use Rattle.sheets.specs.declared.Said.{Said}
use Rattle.sheets.specs.declared.Said.TheVariants.{Global}
use Rattle.sheets.specs.Line.{run}
use Rattle.sheets.specs.Sheet.{says_of, last_piece, said_by_all, lines_in}
use Rattle.sheets.proofs.Plains.{columns-drop}
use Rattle.sheets.proofs.Walk.{pieces_whole}
use Rattle.sheets.proofs.Limits.{Can, says_can}

-- the value of a G line, whose characters stand behind the line's tabs
module _ (t : List ℕ) (at end : ℕ) (lo : at ≤ end) (hi : end ≤ length t) (x : Said) (e : x ≡ says_of (columns t at end)) where
  rest_long : (k : ℕ) → length (drop k (columns t at end)) ≡ end - (at + k)
  rest_long k = length-drop k (columns t at end) ∙ omega (arith, length-columns t at end lo hi)

  pub global_writable : {n k : ℕ} {v : Value} → x ≡ Global n k v → Writable (end - (at + k)) v
  global_writable {n} {k} {v} q =
      let c : Can (columns t at end) (Global n k v) = rw (sym e ∙ q) at (says_can (columns t at end)) in
      rw (rest_long k) at c

-- what stands in a line from column k on
pub line-part : (t : List ℕ) (at k end : ℕ) → drop k (columns t at end) ≡ take (end - (at + k)) (drop (at + k) t)
unfolding columns
line-part t at k end = columns-drop t at k end

-- a piece with no LF says nothing
pub lines_whole : (t : List ℕ) (at end : ℕ) → end ≡ at + run 10 (drop at t) → end ≡ length t → lines_in (drop at t) ≡ last_piece (drop at t)
unfolding lines_in said_by_all
lines_whole t at end e h =
    let k : length (drop at t) ≤ run 10 (drop at t) = omega (arith, length-drop at t) in
    rw (pieces_whole (drop at t) k)
