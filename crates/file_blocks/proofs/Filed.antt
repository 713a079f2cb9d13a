-- A text laid into the first w columns of a file's lines, and then the end of each line: both together are the lines, one behind the other.
-- Assumes nothing.
use mathlib.Core.Path.{◌≡◌, refl, sym, ap, ◌∙◌}
use mathlib.Core.List.{List, [], ◌∷◌, ◌++◌, map, append_assoc}
use Prim.Native.Nat.{ℕ, zero, suc, ◌+◌, ◌-◌, ◌≤◌, ◌<◌}
use native.Mathlib.Nat.{add-zero, suc-add, div-eq_of_lt, mod-eq_of_lt, add-div_right, add-mod_right}
use native.Mathlib.Omega.{arith}
use lib.ListN.{length, take, drop, set, length-append}
use lib.Seq.{set_comm}
use Rattle.columns.specs.Columns.{joined}
use Rattle.columns.specs.Decimal.{to_left}
use Rattle.columns.specs.Laid.{laid, laid_nil, laid-laid}
use Rattle.records.specs.Flow.{cut}
use Rattle.records.specs.Written.{index_of, over}
use Rattle.records.proofs.Puts.{over-over}
use Rattle.records.proofs.Lines.{line_long}
use Rattle.cards.specs.Written.{zeros, line_of, section}
use Rattle.cards.proofs.Round.{length-zeros}
use Rattle.file_blocks.specs.Blocks.{tail_of}
use Rattle.file_blocks.specs.Writing.{tailed}

-- ---- stores at different places

-- a store behind what is laid
set-laid : (o : List ℕ) (k b at : ℕ) (bs : List ℕ) → at + length bs ≤ k → set (laid o at bs) k b ≡ laid (set o k b) at bs
unfolding laid
set-laid o k b at [] h = refl
set-laid o k b at (x ∷ bs) h =
    let d : at ≡ k → ⊥ = omega arith in
    set-laid (set o at x) k b (suc at) bs (omega arith) ∙ ap (λ (l : List ℕ). laid l (suc at) bs) (set_comm o at k x b d)

-- a text laid into lines behind it
over-laid : (base w : ℕ) (o : List ℕ) (at : ℕ) (bs : List ℕ) (p : ℕ) (t : List ℕ) → at + length bs ≤ base → laid (over base w o p t) at bs ≡ over base w (laid o at bs) p t
unfolding over
over-laid base w o at bs p [] h = refl
over-laid base w o at bs p (x ∷ t) h =
    over-laid base w (set o (index_of base w p) x) at bs (suc p) t h
    ∙ ap (λ (l : List ℕ). over base w l (suc p) t) (sym (set-laid o (index_of base w p) x at bs (omega arith)))

-- ---- line by line

-- from the next line on
over-next : (base w : ℕ) → 1 ≤ w → (o : List ℕ) (p : ℕ) (t : List ℕ) → over base w o (p + w) t ≡ over (base + 81) w o p t
unfolding over
over-next base w h o p [] = refl
over-next base w h o p (x ∷ t) =
    let e : index_of base w (p + w) ≡ index_of (base + 81) w p = rw (add-div_right p h, add-mod_right p w) (omega arith) in
    rw (e, ← (suc-add p w)) (over-next base w h (set o (index_of (base + 81) w p) x) (suc p) t)

-- on one line
over-line : (base w : ℕ) (o : List ℕ) (p : ℕ) (t : List ℕ) → p + length t ≤ w → over base w o p t ≡ laid o (base + p) t
unfolding over laid
over-line base w o p [] h = refl
over-line base w o p (x ∷ t) h =
    let l : p < w = omega arith in
    let e : index_of base w p ≡ base + p = rw (div-eq_of_lt l, mod-eq_of_lt l) (omega arith) in
    let k : base + suc p ≡ suc (base + p) = omega arith in
    rw e (rw k at (over-line base w (set o (base + p) x) (suc p) t (omega arith)))

-- a whole line, and the others
over_first : (base w : ℕ) → 1 ≤ w → (o x t : List ℕ) → length x ≡ w → over base w o 0 (x ++ t) ≡ over (base + 81) w (laid o base x) 0 t
over_first base w h o x t l =
    let a : over base w o 0 x ≡ laid o base x = over-line base w o 0 x (omega arith) ∙ ap (λ (k : ℕ). laid o k x) (add-zero base) in
    let k : 0 + length x ≡ 0 + w = omega arith in
    sym (over-over base w o 0 x t) ∙ rw (a, k) (over-next base w h (laid o base x) 0 t)

-- ---- lines with their ends

-- a line is its columns and its end
line-end : (x m : List ℕ) (b n : ℕ) → line_of (x ++ m) b n ≡ x ++ (m ++ tail_of b n)
unfolding line_of tail_of
line-end x m b n = rw (append_assoc (x ++ m) (b ∷ zeros n) (10 ∷ []), append_assoc x m ((b ∷ zeros n) ++ (10 ∷ [])))

pub tail_long : (b n : ℕ) → n ≤ 9999999 → length (tail_of b n) ≡ 9
unfolding tail_of
tail_long b n h = simp length-append (omega (arith, length-zeros n (omega arith)))

-- n lines of the text t, the columns from w + 1 up to the letter being m
module _ (w b : ℕ) (m : List ℕ) (f : List ℕ → List ℕ) (wide : 1 ≤ w) (all : w + length m ≡ 72) (is : (x : List ℕ) → f x ≡ x ++ m) where
  pub filed : (k : ℕ) (t o : List ℕ) (base n : ℕ) → n + k ≤ 9999999
      → tailed (over base w o 0 (joined (cut w k t))) (base + w) m b n k ≡ laid o base (joined (section b n (map f (cut w k t))))
  unfolding tailed cut joined section over
  filed zero t o base n h = sym (laid_nil o base)
  filed (suc k) t o base n h =
      let x = to_left w (take w t) in
      let u = joined (cut w k (drop w t)) in
      let z = m ++ tail_of b n in
      let s = joined (section b (n + 1) (map f (cut w k (drop w t)))) in
      let lx : length x ≡ w = line_long w t in
      let lz : length z ≡ 81 - w = rw (length-append m (tail_of b n)) (omega (arith, tail_long b n (omega arith))) in
      let o1 = laid o base x in
      let o2 = laid o1 (base + w) z in
      let p1 : base + w + 81 ≡ base + 81 + w = omega arith in
      let p2 : base + w ≡ base + length x = omega arith in
      let p3 : base + 81 ≡ base + length (x ++ z) = rw (length-append x z) (omega arith) in
      let e1 : laid (over base w o 0 (x ++ u)) (base + w) z ≡ over (base + 81) w o2 0 u = ap (λ (l : List ℕ). laid l (base + w) z) (over_first base w wide o x u lx) ∙ over-laid (base + 81) w o1 (base + w) z 0 u (omega arith) in
      let e2 : o2 ≡ laid o base (x ++ z) = ap (λ (j : ℕ). laid o1 j z) p2 ∙ laid-laid o base x z in
      let e3 : line_of (f x) b n ≡ x ++ z = ap (λ (l : List ℕ). line_of l b n) (is x) ∙ line-end x m b n in
      ap (λ (l : List ℕ). tailed l (base + w + 81) m b (n + 1) k) e1
      ∙ ap (λ (j : ℕ). tailed (over (base + 81) w o2 0 u) j m b (n + 1) k) p1
      ∙ filed k (drop w t) o2 (base + 81) (n + 1) (omega arith)
      ∙ ap (λ (l : List ℕ). laid l (base + 81) s) e2
      ∙ ap (λ (j : ℕ). laid (laid o base (x ++ z)) j s) p3
      ∙ laid-laid o base (x ++ z) s
      ∙ ap (λ (l : List ℕ). laid o base (l ++ s)) (sym e3)
