-- A text in lines of w columns, joined again, is the text and the blanks that fill its last line. Assumes nothing.
use mathlib.Core.Path.{◌≡◌, refl, ap, ◌∙◌}
use mathlib.Core.Bool.{Bool, true, false}
use mathlib.Core.List.{List, [], ◌∷◌, ◌++◌, append_assoc, append-nil}
use Prim.Native.Nat.{ℕ, zero, suc, ◌+◌, ◌-◌, ◌*◌, ◌≤◌, ◌<◌}
use native.Mathlib.Nat.{mod-lt, div-add-mod'}
use native.Mathlib.Omega.{arith}
use lib.ListN.{length, drop, take, replicate, length-take, length-drop, replicate-append-replicate, drop_of_length-le, take-append-drop}
use lib.Seq.{take_all}
use lib.Dec.{leb}
use borrow.Author.Tests.{leb-true, leb-false}
use Rattle.columns.specs.Decimal.{to_left}
use Rattle.columns.proofs.Decimals.{length_left}
use Rattle.records.specs.Flow.{line_count, cut, in_lines}
use Rattle.columns.specs.Columns.{joined}

-- as many lines as it takes, and not one more
pub lines_hold : (w n : ℕ) → 1 ≤ w → n ≤ line_count w n * w
unfolding line_count
lines_hold w n h = omega (arith, div-add-mod' (n + (w - 1)) w, mod-lt (n + (w - 1)) h)

pub lines_few : (w n : ℕ) → 1 ≤ w → line_count w n * w < n + w
unfolding line_count
lines_few w n h = omega (arith, div-add-mod' (n + (w - 1)) w)

pub length_cut : (w n : ℕ) (t : List ℕ) → length (cut w n t) ≡ n
unfolding cut
length_cut w zero t = refl
length_cut w (suc n) t = ap suc (length_cut w n (drop w t))

pub length-lines : (w : ℕ) (t : List ℕ) → length (in_lines w t) ≡ line_count w (length t)
unfolding in_lines
length-lines w t = length_cut w (line_count w (length t)) t

-- the first of the lines has w columns
pub line_long : (w : ℕ) (t : List ℕ) → length (to_left w (take w t)) ≡ w
line_long w t = length_left w (take w t) (simp length-take (omega arith))

-- a line that the text fills, and one that it doesn't, with m blanks behind the rest of it
full-line : (w m : ℕ) (t : List ℕ) → w ≤ length t → to_left w (take w t) ++ (drop w t ++ replicate (m - length (drop w t)) 32) ≡ t ++ replicate (w + m - length t) 32
unfolding to_left
full-line w m t h =
    let a : w - length (take w t) ≡ 0 = rw length-take (omega arith) in
    let b : m - length (drop w t) ≡ w + m - length t = rw length-drop (omega arith) in
    rw (a, b, append-nil (take w t), ← (append_assoc (take w t) (drop w t) (replicate (w + m - length t) 32)), take-append-drop w t)

part-line : (w m : ℕ) (t : List ℕ) → length t < w → to_left w (take w t) ++ (drop w t ++ replicate (m - length (drop w t)) 32) ≡ t ++ replicate (w + m - length t) 32
unfolding to_left
part-line w m t h =
    let k : length t ≤ w = omega arith in
    let a : drop w t ≡ [] = drop_of_length-le t k in
    let b : take w t ≡ t = take_all w t (omega arith) in
    let c : (w - length t) + (m - 0) ≡ w + m - length t = omega arith in
    rw (a, b, append_assoc t (replicate (w - length t) 32) (replicate (m - 0) 32), replicate-append-replicate {A = ℕ} (w - length t) (m - 0) 32, c)

-- n lines that hold the text
pub join_cut : (w n : ℕ) (t : List ℕ) → length t ≤ n * w → joined (cut w n t) ≡ t ++ replicate (n * w - length t) 32
unfolding cut joined
join_cut w zero [] h = let z : 0 * w - 0 ≡ 0 = omega arith in rw z
join_cut w zero (x ∷ t) h = absurd (omega arith)
join_cut w (suc n) t h =
    let k : suc n * w ≡ w + n * w = omega arith in
    ap (λ (l : List ℕ). to_left w (take w t) ++ l) (join_cut w n (drop w t) (rw length-drop (omega arith))) ∙ rw k (pick (leb w (length t)) refl)
  where
    pick : (b : Bool) → leb w (length t) ≡ b → to_left w (take w t) ++ (drop w t ++ replicate (n * w - length (drop w t)) 32) ≡ t ++ replicate (w + n * w - length t) 32
    pick true e = full-line w (n * w) t (leb-true w (length t) e)
    pick false e = part-line w (n * w) t (leb-false w (length t) e)

-- all its lines
pub join_lines : (w : ℕ) → 1 ≤ w → (t : List ℕ) → joined (in_lines w t) ≡ t ++ replicate (line_count w (length t) * w - length t) 32
unfolding in_lines
join_lines w h t = join_cut w (line_count w (length t)) t (lines_hold w (length t) h)
