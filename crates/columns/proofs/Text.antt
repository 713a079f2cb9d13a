-- The text of a file's lines, character by character and line by line, in its file.
use mathlib.Core.Path.{◌≡◌, sym, ap, ◌∙◌}
use mathlib.Core.List.{List}
use Prim.Native.Nat.{ℕ, zero, suc, ◌+◌, ◌-◌, ◌*◌, ◌/◌, ◌%◌, ◌≤◌, ◌<◌}
use native.Mathlib.Nat.{add-zero, mod-lt, div-add-mod', div-lt_iff_lt-mul, mul-le-mul_right}
use native.Mathlib.Omega.{arith}
use lib.ListN.{length, get_or, drop, take, length-append, length-take, length-drop, get_or-eq_default}
use lib.Seq.{take_at, drop-append-le, drop-append-add, drop-drop, get_or-drop, get_or-take}
use Rattle.columns.specs.Columns.{text_of}
use Rattle.columns.proofs.Columns.{drop-take}

module _ (file : List ℕ) (w : ℕ) (narrow : w ≤ 81) where
  text-length : (lines base : ℕ) → base + lines * 81 ≤ length file → length (text_of file base w lines) ≡ lines * w
  unfolding text_of
  text-length zero base h = omega arith
  text-length (suc n) base h = simp (length-append, length-take, length-drop) (omega (arith, text-length n (base + 81) (omega arith)))

  -- the rest of line i from column j on
  line-of : (lines i j base : ℕ) → base + lines * 81 ≤ length file → i < lines → j < w
      → take (w - j) (drop (i * w + j) (text_of file base w lines)) ≡ take (w - j) (drop (base + i * 81 + j) file)
  unfolding text_of
  line-of zero i j base h k l = absurd (omega arith)
  line-of (suc n) zero j base h k l =
      let x = take w (drop base file) in
      let y = text_of file (base + 81) w n in
      let lx : length x ≡ w = simp (length-take, length-drop) (omega arith) in
      let ld : length (drop j x) ≡ w - j = simp (length-drop, length-take) (omega arith) in
      let a : 0 * w + j ≡ j = omega arith in
      let b : base + 0 * 81 + j ≡ base + j = omega arith in
      rw (a, b, drop-append-le j x y (omega arith)) (take_at (drop j x) y (w - j) ld ∙ drop-take j w (drop base file) ∙ ap (λ (z : List ℕ). take (w - j) z) (drop-drop j base file))
  line-of (suc n) (suc i) j base h k l =
      let x = take w (drop base file) in
      let y = text_of file (base + 81) w n in
      let lx : length x ≡ w = simp (length-take, length-drop) (omega arith) in
      let a : suc i * w + j ≡ length x + (i * w + j) = omega arith in
      let b : base + suc i * 81 + j ≡ base + 81 + i * 81 + j = omega arith in
      rw (a, b, drop-append-add x y (i * w + j)) (line-of n i j (base + 81) (omega arith) (omega arith) l)

-- so many lines of w columns from base on, within the file
module _ (file : List ℕ) (base w lines : ℕ) (wide : 1 ≤ w) (narrow : w ≤ 81) (inside : base + lines * 81 ≤ length file) where
  pub length-text : length (text_of file base w lines) ≡ lines * w
  length-text = text-length file w narrow lines base inside

  module _ (p : ℕ) (h : p < lines * w) where
    pub text_column : p % w < w
    text_column = mod-lt p (omega arith)

    pub text-line : p / w < lines
    text-line = (div-lt_iff_lt-mul wide).1 h

    -- the rest of p's line ends within the file
    pub rest_in_file : base + p / w * 81 + p % w + (w - p % w) ≤ length file
    rest_in_file = omega (arith, text-line, text_column)

    -- and within the text
    pub rest_in_text : p + (w - p % w) ≤ lines * w
    rest_in_text = omega (arith, text_column, div-add-mod' p w, mul-le-mul_right w text-line)

    -- the rest of p's line
    pub text_rest : take (w - p % w) (drop p (text_of file base w lines)) ≡ take (w - p % w) (drop (base + p / w * 81 + p % w) file)
    text_rest = ap (λ (k : ℕ). take (w - p % w) (drop k (text_of file base w lines))) (sym (div-add-mod' p w)) ∙ line-of file w narrow lines (p / w) (p % w) base inside text-line text_column

    -- the character at p
    pub text_char : get_or (text_of file base w lines) p 0 ≡ get_or file (base + p / w * 81 + p % w) 0
    text_char = first p (text_of file base w lines) ∙ ap (λ (l : List ℕ). get_or l 0 0) text_rest ∙ sym (first (base + p / w * 81 + p % w) file)
      where
        first : (q : ℕ) (l : List ℕ) → get_or l q 0 ≡ get_or (take (w - p % w) (drop q l)) 0 0
        first q l = ap (λ (k : ℕ). get_or l k 0) (sym (add-zero q)) ∙ sym (get_or-drop q l 0 0) ∙ sym (get_or-take (w - p % w) (drop q l) 0 0 (omega (arith, text_column)))

  pub text-end : (p : ℕ) → lines * w ≤ p → get_or (text_of file base w lines) p 0 ≡ 0
  text-end p h = get_or-eq_default (text_of file base w lines) 0 (omega (arith, length-text))
