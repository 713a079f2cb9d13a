-- The bytes of a section: those of its first lines, and those of the others; 81 to a line. Assumes nothing.
use mathlib.Core.Path.{◌≡◌, refl, sym, ap, ◌∙◌}
use mathlib.Core.List.{List, [], ◌∷◌, ◌++◌, map, append_assoc}
use Prim.Native.Nat.{ℕ, zero, suc, ◌+◌, ◌*◌, ◌^◌, ◌≤◌, ◌<◌}
use native.Mathlib.Nat.{add-zero}
use native.Mathlib.Omega.{arith}
use lib.ListN.{length, take, drop, length-append}
use Rattle.columns.specs.Columns.{joined}
use Rattle.columns.specs.Decimal.{dec, to_left}
use Rattle.columns.specs.Format.{most_lines}
use Rattle.columns.proofs.Decimals.{length_dec_le, length_right}
use Rattle.records.specs.Flow.{line_count, cut, in_lines}
use Rattle.records.proofs.Lines.{line_long, length-lines}
use Rattle.values.specs.Value.{Item}
use Rattle.cards.specs.Written.{zeros, line_of, section, All, none, one}
use Rattle.cards.proofs.Round.{length-zeros}
use Rattle.directory.specs.Lines.{entry_lines}
use Rattle.model.specs.Model.{Carried}
use Rattle.model.specs.Canonical.{global_text, parameter_text, owned, block_of, directory_lines, parameter_lines}
use Rattle.file_canonical.proofs.Totals.{entry-two}
use Rattle.file_blocks.specs.Blocks.{global_bytes}
use Rattle.file_canonical.specs.Laying.{number_of, directory_bytes, parameter_bytes}

pub joined_both : (a b : List (List ℕ)) → joined (a ++ b) ≡ joined a ++ joined b
unfolding joined
joined_both [] b = refl
joined_both (l ∷ a) b = ap (λ (x : List ℕ). l ++ x) (joined_both a b) ∙ sym (append_assoc l (joined a) (joined b))

pub section_both : (b n : ℕ) (xs ys : List (List ℕ)) → section b n (xs ++ ys) ≡ section b n xs ++ section b (n + length xs) ys
unfolding section
section_both b n [] ys = rw (add-zero n)
section_both b n (x ∷ xs) ys =
    let e : n + 1 + length xs ≡ n + suc (length xs) = omega arith in
    ap (λ (ls : List (List ℕ)). line_of x b n ∷ ls) (section_both b (n + 1) xs ys ∙ rw e)

-- the bytes of the first lines, and of the others
bytes_both : (b n : ℕ) (xs ys : List (List ℕ)) → joined (section b n (xs ++ ys)) ≡ joined (section b n xs) ++ joined (section b (n + length xs) ys)
bytes_both b n xs ys = ap joined (section_both b n xs ys) ∙ joined_both (section b n xs) (section b (n + length xs) ys)

-- ---- entry by entry

module _ (k from : ℕ) (e : Carried) (es : List Carried) where
  next-number : number_of k + 2 ≡ number_of (k + 1)
  next-number = omega arith

  pub directory_first :
      directory_bytes k from (e ∷ es) ≡ joined (section 68 (number_of k) (entry_lines e.fields from (length (block_of (number_of k) e)) e.label)) ++ directory_bytes (k + 1) (from + length (block_of (number_of k) e)) es
  unfolding directory_bytes directory_lines
  directory_first =
      let count = length (block_of (number_of k) e) in
      bytes_both 68 (number_of k) (entry_lines e.fields from count e.label) (directory_lines (number_of k + 2) (from + count) es)
      ∙ rw (entry-two e from count, next-number)

  pub parameter_first : parameter_bytes k from (e ∷ es) ≡ joined (section 80 from (block_of (number_of k) e)) ++ parameter_bytes (k + 1) (from + length (block_of (number_of k) e)) es
  unfolding parameter_bytes parameter_lines
  parameter_first = bytes_both 80 from (block_of (number_of k) e) (parameter_lines (number_of k + 2) es) ∙ rw next-number

  pub parameter_lines_lem : length (parameter_lines (number_of k) (e ∷ es)) ≡ length (block_of (number_of k) e) + length (parameter_lines (number_of (k + 1)) es)
  unfolding parameter_lines
  parameter_lines_lem = length-append (block_of (number_of k) e) (parameter_lines (number_of k + 2) es) ∙ rw next-number

pub directory_none : (k from : ℕ) → directory_bytes k from [] ≡ []
unfolding directory_bytes directory_lines section joined
directory_none k from = refl

pub parameter_none : (k from : ℕ) → parameter_bytes k from [] ≡ []
unfolding parameter_bytes parameter_lines section joined
parameter_none k from = refl

-- ---- 81 bytes to a line

-- all lines have 72 columns
abbrev pub Wide : List (List ℕ) → Type 0
Wide = All (λ (x : List ℕ). length x ≡ 72)

pub wide_both : {a b : List (List ℕ)} → Wide a → Wide b → Wide (a ++ b)
wide_both none q = q
wide_both (one p ps) q = one p (wide_both ps q)

pub line-length : (x : List ℕ) (b n : ℕ) → length x ≡ 72 → n < 10 ^ 7 → length (line_of x b n) ≡ 81
unfolding line_of
line-length x b n h k = length-append (x ++ (b ∷ zeros n)) (10 ∷ []) ∙ omega (arith, length-append x (b ∷ zeros n), length-zeros n k)

pub section-length : (b n : ℕ) {xs : List (List ℕ)} → Wide xs → n + length xs ≤ 9999999 → length (joined (section b n xs)) ≡ 81 * length xs
unfolding section joined
section-length b n none h = refl
section-length b n (one {x} {xs} p ps) h =
    length-append (line_of x b n) (joined (section b (n + 1) xs)) ∙ omega (arith, line-length x b n p (omega arith), section-length b (n + 1) ps (omega arith))

-- a text in lines of 72 columns
cut_wide : (n : ℕ) (t : List ℕ) → Wide (cut 72 n t)
unfolding cut
cut_wide zero t = none
cut_wide (suc n) t = one (line_long 72 t) (cut_wide n (drop 72 t))

pub lines_wide : (t : List ℕ) → Wide (in_lines 72 t)
unfolding in_lines
lines_wide t = cut_wide (line_count 72 (length t)) t

-- a block: 64 columns, a blank, seven columns
owned_wide : (number : ℕ) → number ≤ 9999999 → (x : List ℕ) → length x ≡ 64 → length (owned number x) ≡ 72
owned_wide number h x e = length-append x _ ∙ omega (arith, length_right 32 7 (dec number) (length_dec_le 6 number (omega arith)))

cut-owned : (number : ℕ) → number ≤ 9999999 → (n : ℕ) (t : List ℕ) → Wide (map (owned number) (cut 64 n t))
unfolding cut
cut-owned number h zero t = none
cut-owned number h (suc n) t = one (owned_wide number h (to_left 64 (take 64 t)) (line_long 64 t)) (cut-owned number h n (drop 64 t))

pub block_wide : (number : ℕ) (e : Carried) → number ≤ 9999999 → Wide (block_of number e)
unfolding block_of in_lines
block_wide number e h = cut-owned number h (line_count 64 (length (parameter_text e))) (parameter_text e)

pub parameter_wide : (n : ℕ) (es : List Carried) → n + 2 * length es ≤ 9999999 → Wide (parameter_lines n es)
unfolding parameter_lines
parameter_wide n [] h = none
parameter_wide n (e ∷ es) h = wide_both (block_wide n e (omega arith)) (parameter_wide (n + 2) es (omega arith))

pub block_length : (from number : ℕ) (e : Carried) → number ≤ 9999999 → from + length (block_of number e) ≤ 9999999 → length (joined (section 80 from (block_of number e))) ≡ 81 * length (block_of number e)
block_length from number e h k = section-length 80 from (block_wide number e h) k

-- the G lines of a sheet, and its P lines
pub global_length : (gs : List (ℕ × Item)) (g : ℕ) → line_count 72 (length (global_text gs)) ≡ g → g ≤ most_lines → length (global_bytes gs) ≡ 81 * g
unfolding global_bytes
global_length gs g e h =
    let l = length-lines 72 (global_text gs) in
    section-length 71 1 (lines_wide (global_text gs)) (omega arith) ∙ ap (λ (k : ℕ). 81 * k) (l ∙ e)

pub parameter_length : (es : List Carried) (p : ℕ) → length (parameter_lines 1 es) ≡ p → p ≤ most_lines → length es ≤ most_lines → length (parameter_bytes 0 1 es) ≡ 81 * p
unfolding parameter_bytes
parameter_length es p e h k = section-length 80 1 (parameter_wide 1 es (omega arith)) (omega arith) ∙ ap (λ (i : ℕ). 81 * i) e
