-- The start texts: a text is trimmed from the right; one line after the other. Assumes nothing.
use mathlib.Core.Path.{◌≡◌, refl, sym, ap, ◌∙◌}
use mathlib.Core.Bool.{false}
use mathlib.Core.List.{List, [], ◌∷◌, ◌++◌, map, append_assoc}
use Prim.Native.Nat.{ℕ, suc, ◌+◌, ◌-◌, ◌*◌, ◌≤◌, ◌<◌}
use native.Mathlib.Omega.{arith}
use lib.ListN.{length, get_or, take, drop, length-drop}
use lib.Seq.{take-suc, take-take, get_or-drop, length-take-le}
use lib.Dec.{eqb}
use borrow.Author.Tests.{ne_eqb}
use Rattle.columns.specs.Columns.{columns, line_at}
use Rattle.columns.specs.First.{up_from}
use Rattle.columns.specs.Trim.{trim_onto, trim_end}
use Rattle.columns.specs.Laid.{Wrote, Owes}
use Rattle.columns.proofs.Writes.{owes_all, owes_less, owes_none, wrote_length, wrote_same}
use Rattle.sheets.specs.Sheet.{Line, start, line_of, start_lines, text_of as sheet_bytes}
use Rattle.model.specs.Read.{is_blank, start_text}
use Rattle.print.specs.Bytes.{start_bytes}

-- ---- trimming

-- a blank at the end is dropped
trim-blank : (xs : List ℕ) (x : ℕ) → x ≡ 32 → trim_end is_blank (xs ++ (x ∷ [])) ≡ trim_end is_blank xs
trim-blank [] x e = rw e
trim-blank (y ∷ ys) x e = ap (trim_onto is_blank y) (trim-blank ys x e)

-- anything else stays, with all before it
trim_keep : (xs : List ℕ) (x : ℕ) → eqb x 32 ≡ false → trim_end is_blank (xs ++ (x ∷ [])) ≡ xs ++ (x ∷ [])
trim_keep [] x e = rw e
trim_keep (y ∷ ys) x e = ap (trim_onto is_blank y) (trim_keep ys x e) ∙ onto ys
  where
    onto : (zs : List ℕ) → trim_onto is_blank y (zs ++ (x ∷ [])) ≡ y ∷ (zs ++ (x ∷ []))
    onto [] = refl
    onto (z ∷ zs) = refl

module _ (f : List ℕ) (from : ℕ) (room : from + 72 ≤ length f) (n : ℕ) (few : n ≤ 72) where
  -- the first n end with the one at n - 1
  last_of : 0 < n → take n (drop from f) ≡ take (n - 1) (drop from f) ++ (get_or f (from + (n - 1)) 0 ∷ [])
  last_of h =
      let e : n ≡ suc (n - 1) = omega arith in
      let l : n - 1 < length (drop from f) = simp length-drop (omega arith) in
      ap (λ (k : ℕ). take k (drop from f)) e ∙ take-suc (drop from f) (n - 1) 0 l
      ∙ ap (λ (x : ℕ). take (n - 1) (drop from f) ++ (x ∷ [])) (get_or-drop from f (n - 1) 0)

  module _ {z : List ℕ} (p : trim_end is_blank (take n (drop from f)) ≡ z) where
    pub kept_less : 0 < n → get_or f (from + (n - 1)) 0 ≡ 32 → trim_end is_blank (take (n - 1) (drop from f)) ≡ z
    kept_less h e = sym (trim-blank (take (n - 1) (drop from f)) (get_or f (from + (n - 1)) 0) e) ∙ ap (trim_end is_blank) (sym (last_of h)) ∙ p

    pub kept_here : 0 < n → (get_or f (from + (n - 1)) 0 ≡ 32 → ⊥) → take (n - 1 + 1) (drop from f) ≡ z
    kept_here h e =
        let k : n - 1 + 1 ≡ n = omega arith in
        ap (λ (j : ℕ). take j (drop from f)) k ∙ last_of h ∙ sym (trim_keep (take (n - 1) (drop from f)) (get_or f (from + (n - 1)) 0) (ne_eqb _ _ e)) ∙ ap (trim_end is_blank) (sym (last_of h)) ∙ p

    pub kept-none : n ≤ 0 → [] ≡ z
    kept-none h =
        let e : n ≡ 0 = omega arith in
        rw e at p

pub ruleset trims = (kept_less, kept_here, kept-none)

-- ---- a line

-- the text of line k stands in the file
line-text : (f : List ℕ) (k : ℕ) → columns (line_at f k) 0 72 ≡ take 72 (drop (81 * k) f)
unfolding columns line_at
line-text f k =
    let e : 81 * k + 81 - 81 * k ≡ 81 = omega arith in
    rw e (take-take 72 81 (drop (81 * k) f) (omega arith))

module _ (f : List ℕ) (k from n end : ℕ) (ef : from ≡ 81 * k) (ee : end ≡ from + n) where
  pub start-line : {o o' : List ℕ} {at r : ℕ} → take n (drop from f) ≡ trim_end is_blank (take 72 (drop from f))
      → Wrote o at (line_of (start (take (end - from) (drop from f))) ++ (10 ∷ [])) o' r → Wrote o at (line_of (start (start_text f k)) ++ (10 ∷ [])) o' r
  start-line h p =
      let e : end - from ≡ n = omega arith in
      let t : take (end - from) (drop from f) ≡ start_text f k
      = ap (λ (j : ℕ). take j (drop from f)) e ∙ h ∙ ap (λ (j : ℕ). trim_end is_blank (take 72 (drop j f))) ef ∙ ap (trim_end is_blank) (sym (line-text f k)) in
      wrote_same p (ap (λ (l : List ℕ). line_of (start l) ++ (10 ∷ [])) t)

  pub start-bound : (at r : ℕ) → n ≤ 72 → 81 * k + 81 ≤ length f → r ≡ at + length (take (end - from) (drop from f)) + 3 → r ≤ at + 75
  start-bound at r h i e =
      let l : length (take (end - from) (drop from f)) ≡ end - from = length-take-le (end - from) (drop from f) (simp length-drop (omega arith)) in
      omega arith

-- ---- all of them

pub start-lines : (ts : List (List ℕ)) (rest : List Line) → sheet_bytes (start_lines ts rest) ≡ start_bytes ts ++ sheet_bytes rest
unfolding sheet_bytes start_lines start_bytes
start-lines [] rest = refl
start-lines (t ∷ ts) rest =
    ap (λ (l : List ℕ). line_of (start t) ++ (10 ∷ l)) (start-lines ts rest)
    ∙ sym (append_assoc (line_of (start t)) (10 ∷ []) (start_bytes ts ++ sheet_bytes rest))
    ∙ sym (append_assoc (line_of (start t) ++ (10 ∷ [])) (start_bytes ts) (sheet_bytes rest))

pub starts_all : (o : List ℕ) (at : ℕ) (f : List ℕ) (s : ℕ) → Owes o at (start_bytes (map (start_text f) (up_from 0 s))) o at (start_bytes (map (start_text f) (up_from 0 (s - 0))))
starts_all o at f s =
    let e : s - 0 ≡ s = omega arith in
    rw e (owes_all o at (start_bytes (map (start_text f) (up_from 0 s))))

module _ (f : List ℕ) (s i : ℕ) {o bs o₁ : List ℕ} {at r₁ : ℕ} (p : Owes o at bs o₁ r₁ (start_bytes (map (start_text f) (up_from i (s - i))))) where
  pub starts_more : {o₂ : List ℕ} {r₂ : ℕ} → i < s → Wrote o₁ r₁ (line_of (start (start_text f i)) ++ (10 ∷ [])) o₂ r₂
      → Owes o at bs o₂ r₂ (start_bytes (map (start_text f) (up_from (i + 1) (s - (i + 1)))))
  unfolding start_bytes up_from
  starts_more h w =
      let e : s - i ≡ suc (s - (i + 1)) = omega arith in
      owes_less (rw e at p) w

  pub starts-end : s ≤ i → Wrote o at bs o₁ r₁
  unfolding start_bytes up_from
  starts-end h =
      let e : s - i ≡ 0 = omega arith in
      owes_none (rw e at p)

pub ruleset started = (start-line, start-bound, starts_all, starts_more, starts-end, wrote_length)
