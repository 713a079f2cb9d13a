-- What the functions that read go by, one law for each need. Assumes nothing.
use mathlib.Core.Path.{◌≡◌, refl, sym, ap, ◌∙◌}
use mathlib.Core.Bool.{Bool, true, false}
use mathlib.Core.List.{List, []}
use Prim.Native.Nat.{ℕ, suc, ◌+◌, ◌-◌, ◌*◌, ◌/◌, ◌%◌, ◌≤◌, ◌<◌}
use native.Mathlib.Nat.{add-zero}
use native.Mathlib.Numerals.{add-one}
use native.Mathlib.Omega.{arith}
use lib.ListN.{length, get_or, drop, take, length-take, drop_of_length-le}
use lib.Seq.{drop-cons, take-nil}
use lib.Dec.{leb}
use borrow.Author.Tests.{ne_eqb, le-leb, lt-leb, leb-true, leb-false}
use Rattle.values.specs.declared.Token.{Token}
use Rattle.values.specs.declared.Number.TheVariants.{Bad}
use Rattle.values.specs.Head.{head_of}
use Rattle.values.specs.Number.{number_of}
use Rattle.values.specs.Reading.{Within}
use Rattle.columns.specs.declared.Fault.TheVariants.{Spelling}
use Rattle.values.specs.declared.Value.TheVariants.{Default, Text}
use Rattle.values.specs.declared.Head.{Head}
use Rattle.values.specs.declared.Head.TheVariants.{Count, Plain}
use Rattle.records.specs.declared.Next.{Next}
use Rattle.records.specs.declared.Next.TheVariants.{Delimiter, Other}
use Rattle.columns.specs.Columns.{text_of}
use Rattle.records.specs.Reading.{Stands, Sane}
use Rattle.records.specs.Record.{Got, found_at, refused_at, blanks, mark, next_at, found, headed, by_next, value_at}
use Rattle.records.proofs.Bounds.{within, sane}
use Rattle.records.proofs.Texts.{length-text, char_of, char_end, rest_of, rest_in}

module _ {file : List ℕ} {base w lines : ℕ} (st : Stands file base w lines) where
  module _ {p : ℕ} (h : p < lines * w) where
    module _ {i : ℕ} (e : i ≡ base + p / w * 81 + p % w) where
      pub char_in : get_or file i 0 ≡ get_or (text_of file base w lines) p 0
      char_in = ap (λ (n : ℕ). get_or file n 0) e ∙ sym (char_of file base w lines st p h)

  pub char_out : {p : ℕ} → lines * w ≤ p → 0 ≡ get_or (text_of file base w lines) p 0
  char_out {p} h = sym (char_end file base w lines st p h)

  -- a turn of the loop over blanks
  module _ (q r : ℕ) (e : r ≡ q + blanks (drop q (text_of file base w lines))) where
    pub skip_ink : {x : ℕ} → x ≡ get_or (text_of file base w lines) q 0 → (x ≡ 32 → ⊥) → q < lines * w → q ≡ r
    skip_ink g n h =
        let t = text_of file base w lines in
        let k : q < length t = omega (arith, length-text file base w lines st) in
        let z : blanks (drop q t) ≡ 0 = rw (drop-cons t q 0 k, ← g) (simp (ne_eqb _ 32 n)) in
        omega arith

    pub skip_blank : {x : ℕ} → x ≡ get_or (text_of file base w lines) q 0 → x ≡ 32 → q < lines * w → r ≡ q + 1 + blanks (drop (q + 1) (text_of file base w lines))
    skip_blank g n h =
        let t = text_of file base w lines in
        let k : q < length t = omega (arith, length-text file base w lines st) in
        let z : blanks (drop q t) ≡ suc (blanks (drop (q + 1) t)) = rw (drop-cons t q 0 k, ← g, n, add-one) in
        omega arith

    pub skip_end : lines * w ≤ q → q ≡ r
    skip_end h =
        let t = text_of file base w lines in
        let k : length t ≤ q = omega (arith, length-text file base w lines st) in
        let z : blanks (drop q t) ≡ 0 = rw (drop_of_length-le t k) in
        omega arith

    pub skip_all : lines * w ≤ q → q ≤ lines * w → lines * w ≡ r
    skip_all h k = omega (arith, skip_end h)

  -- what stands at p is no blank, or it is one and p stands in the text
  module _ {x : ℕ} (p : ℕ) (g : x ≡ get_or (text_of file base w lines) p 0) where
    ink_none : (x ≡ 32 → ⊥) → p ≡ p + blanks (drop p (text_of file base w lines))
    ink_none n = pick (leb (lines * w) p) refl
      where
        pick : (b : Bool) → leb (lines * w) p ≡ b → p ≡ p + blanks (drop p (text_of file base w lines))
        pick true e = skip_end p (p + blanks (drop p (text_of file base w lines))) refl (leb-true (lines * w) p e)
        pick false e = skip_ink p (p + blanks (drop p (text_of file base w lines))) refl g n (leb-false (lines * w) p e)

    blank_in : x ≡ 32 → p < lines * w
    blank_in n = pick (leb (lines * w) p) refl
      where
        pick : (b : Bool) → leb (lines * w) p ≡ b → p < lines * w
        pick true e = absurd (omega (arith, g, n, char_end file base w lines st p (leb-true (lines * w) p e)))
        pick false e = leb-false (lines * w) p e

    pub blank_turn : x ≡ 32 → p + 1 ≤ lines * w
    blank_turn n = omega (arith, blank_in n)

-- ---- what stands behind the blanks

next-parts : (c d x q : ℕ) (t : List ℕ) (p : ℕ) {n : Next} → n ≡ mark c d x q → x ≡ get_or t q 0 → q ≡ p + blanks (drop p t) → n ≡ next_at c d t p
unfolding next_at
next-parts c d x q t p en ex eq = rw (en, ex, eq)

-- at p itself, or behind the blank there
module _ {file : List ℕ} {base w lines : ℕ} (st : Stands file base w lines) (c d : ℕ) {x : ℕ} (p : ℕ) (g : x ≡ get_or (text_of file base w lines) p 0) where
  pub next_here : {n : Next} → (x ≡ 32 → ⊥) → n ≡ mark c d x p → n ≡ next_at c d (text_of file base w lines) p
  next_here k en = next-parts c d x p (text_of file base w lines) p en g (ink_none st p g k)

  pub next-on : {n : Next} {y q : ℕ} → x ≡ 32 → q ≡ p + 1 + blanks (drop (p + 1) (text_of file base w lines)) → y ≡ get_or (text_of file base w lines) q 0 → n ≡ mark c d y q
      → n ≡ next_at c d (text_of file base w lines) p
  next-on {y = y} {q = q} k eq ey en =
      let t = text_of file base w lines in
      next-parts c d y q t p en ey (eq ∙ sym (skip_blank st p (p + blanks (drop p t)) refl g k (blank_in st p g k)))

-- ---- heads

-- the rest of p's line, as a part of the file
module _ {file : List ℕ} {base w lines : ℕ} (st : Stands file base w lines) {p a j : ℕ} {h : Head} (l : p < lines * w) (ea : a ≡ base + p / w * 81 + p % w) (ej : j ≡ p % w)
    (e : h ≡ head_of (take (a + (w - j) - a) (drop a file))) where
  rest_length : a + (w - j) - a ≡ w - p % w
  rest_length = omega arith

  head-here : h ≡ head_of (take (w - p % w) (drop p (text_of file base w lines)))
  head-here = e ∙ ap (λ (k : ℕ). head_of (take k (drop a file))) rest_length ∙ ap (λ (i : ℕ). head_of (take (w - p % w) (drop i file))) ea ∙ ap head_of (sym (rest_of file base w lines st p l))

  within-here : Within (lines * w - p) h
  within-here =
      let n = rest_in file base w lines st p l in
      let m : length (take (a + (w - j) - a) (drop a file)) ≤ lines * w - p = simp length-take (omega arith) in
      rw e (within _ (lines * w - p) m)

  module _ {count len : ℕ} (eh : h ≡ Count count len) where
    pub given-count : {r : Got} (c d : ℕ) → r ≡ headed c d (text_of file base w lines) p (Count count len) → r ≡ by_next w c d (text_of file base w lines) (Other p)
    given-count c d q = q ∙ ap (headed c d (text_of file base w lines) p) (sym eh ∙ head-here)

  module _ {k : Token} (eh : h ≡ Plain k) where
    pub plain-within : Within (lines * w - p) (Plain k)
    plain-within = rw eh at within-here

    pub given-plain : {r : Got} (c d : ℕ) → r ≡ headed c d (text_of file base w lines) p (Plain k) → r ≡ by_next w c d (text_of file base w lines) (Other p)
    given-plain c d q = q ∙ ap (headed c d (text_of file base w lines) p) (sym eh ∙ head-here)

-- past the text's end there is nothing to read
no_head : head_of [] ≡ Plain (record { number = Bad; len = 0 })
unfolding head_of number_of
no_head = refl

pub given-none : {file : List ℕ} {base w lines : ℕ} → Stands file base w lines → (c d s : ℕ) → lines * w ≤ s → refused_at Spelling s s ≡ by_next w c d (text_of file base w lines) (Other s)
given-none {file} {base} {w} {lines} st c d s l =
    let t = text_of file base w lines in
    let k : length t ≤ s = omega (arith, length-text file base w lines st) in
    let e : head_of (take (w - s % w) (drop s t)) ≡ Plain (record { number = Bad; len = 0 }) = ap (λ (y : List ℕ). head_of (take (w - s % w) y)) (drop_of_length-le t k) ∙ ap head_of (take-nil (w - s % w)) ∙ no_head in
    ap (refused_at Spelling s) (sym (add-zero s)) ∙ ap (headed c d t s) (sym e)

-- ---- put together

module _ {file : List ℕ} {base w lines : ℕ} (st : Stands file base w lines) where
  module _ (c d s : ℕ) where
    pub count_short : (count len : ℕ) → lines * w < s + len + count → refused_at Spelling s (lines * w) ≡ headed c d (text_of file base w lines) s (Count count len)
    count_short count len h = rw (length-text file base w lines st) (simp (lt-leb (s + len + count) (lines * w) h))

    pub count_long : (count len : ℕ) {n : Next} {r : Got} → s + len + count ≤ lines * w → n ≡ next_at c d (text_of file base w lines) (s + len + count) → r ≡ found (Text (s + len) count) s n
        → r ≡ headed c d (text_of file base w lines) s (Count count len)
    count_long count len h en er = er ∙ rw (length-text file base w lines st, en) (simp (le-leb (s + len + count) (lines * w) h))

module _ (w c d p : ℕ) (t : List ℕ) {n : Next} (en : n ≡ next_at c d t p) where
  pub value_default : {at : ℕ} {last : Bool} → n ≡ Delimiter at last → found_at Default at (at + 1) last ≡ value_at w c d t p
  unfolding value_at
  value_default e = ap (by_next w c d t) (sym e ∙ en)

  pub value-given : {at : ℕ} {r : Got} → n ≡ Other at → r ≡ by_next w c d t (Other at) → r ≡ value_at w c d t p
  unfolding value_at
  value-given e q = q ∙ ap (by_next w c d t) (sym e ∙ en)

-- a value that is read is sane
module _ {file : List ℕ} {base w lines : ℕ} (st : Stands file base w lines) {c d : ℕ} (pc : 0 < c) (pd : 0 < d) {p : ℕ} (h : p ≤ lines * w) where
  value_sane : {r : Got} → r ≡ value_at w c d (text_of file base w lines) p → Sane p (lines * w) r
  value_sane e =
      let t = text_of file base w lines in
      let k : p ≤ length t = omega (arith, length-text file base w lines st) in
      rw (e, ← (length-text file base w lines st)) (sane w c d t pc pd p k)

  module _ {n : Next} (en : n ≡ next_at c d (text_of file base w lines) p) where
    pub sane_default : {at : ℕ} {last : Bool} → n ≡ Delimiter at last → Sane p (lines * w) (found_at Default at (at + 1) last)
    sane_default e = value_sane (value_default w c d p (text_of file base w lines) en e)

    pub sane_given : {at : ℕ} {r : Got} → n ≡ Other at → r ≡ by_next w c d (text_of file base w lines) (Other at) → Sane p (lines * w) r
    sane_given e q = value_sane (value-given w c d p (text_of file base w lines) en e q)

pub ruleset ends_laws = (count_short, count_long, given-none, given-count, given-plain, plain-within, value_default, value-given, sane_default, sane_given)

pub ruleset laws = (char_in, char_out, blank_turn, next_here, next-on)
