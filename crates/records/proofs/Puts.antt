-- What one write after another leaves in a file's columns, and a value's piece put together of its parts. Assumes nothing.
use mathlib.Core.Path.{◌≡◌, refl, sym, ap, ◌∙◌}
use mathlib.Core.Bool.{Bool, true, false}
use mathlib.Core.List.{List, [], ◌∷◌, ◌++◌, append_assoc}
use Prim.Native.Nat.{ℕ, suc, ◌+◌, ◌-◌, ◌*◌, ◌/◌, ◌%◌, ◌^◌, ◌≤◌, ◌<◌}
use native.Mathlib.Nat.{add_assoc, add-zero, zero-add, add-suc, suc-add, mod-lt, div-le_self}
use native.Mathlib.Numerals.{add-one}
use native.Mathlib.Omega.{arith}
use lib.ListN.{length, take, drop, length-take, length-drop, get_or, set, replicate, length-append, length-set, length-replicate, replicate-append-replicate}
use lib.Seq.{take-append_seam, take-suc, take_all, set_out}
use borrow.Author.Tests.{le-leb, lt-leb}
use Rattle.columns.specs.Laid.{Wrote, laid, laid_eq}
use Rattle.columns.proofs.Writes.{wrote_length}
use Rattle.values.specs.declared.Value.{Value}
use Rattle.values.specs.declared.Value.TheVariants.{Default, Whole, Real, Text}
use Rattle.values.specs.Value.{item_of, head, spelled}
use Rattle.values.specs.Writing.{front, chars, Inside}
use Rattle.values.proofs.Spells.{front-chars}
use Rattle.records.specs.Reading.{Writable}
use Rattle.records.specs.Flow.{firm, gap, delimiter, piece}
use Rattle.records.specs.Written.{index_of, over, Put, Room, copied, piece_end}
use Rattle.records.proofs.Bounds.{text_in, text_few}
use Rattle.records.proofs.Positions.{on_line_lem}

pub length_over : (base w : ℕ) (o : List ℕ) (p : ℕ) (bs : List ℕ) → length (over base w o p bs) ≡ length o
unfolding over
length_over base w o p [] = refl
length_over base w o p (b ∷ bs) = length_over base w (set o (index_of base w p) b) (suc p) bs ∙ length-set o (index_of base w p) b

-- one piece after another is both in one
pub over-over : (base w : ℕ) (o : List ℕ) (p : ℕ) (a b : List ℕ) → over base w (over base w o p a) (p + length a) b ≡ over base w o p (a ++ b)
unfolding over
over-over base w o p [] b = rw add-zero
over-over base w o p (x ∷ a) b = rw (add-suc, ← suc-add) (over-over base w (set o (index_of base w p) x) (suc p) a b)

module _ {base w : ℕ} where
  pub put_one : (o : List ℕ) (p b r i : ℕ) → i ≡ base + p / w * 81 + p % w → r ≡ p + 1 → Put base w o p (b ∷ []) (set o i b) r
  unfolding over
  put_one o p b r i k e = record { bytes = ap (λ (n : ℕ). set o n b) k; next = e }

  pub put_out : (o : List ℕ) (p b r i : ℕ) → i ≡ base + p / w * 81 + p % w → r ≡ p + 1 → length o ≤ i → Put base w o p (b ∷ []) o r
  unfolding over
  put_out o p b r i k e h = record { bytes = sym (set_out o (index_of base w p) b (omega arith)); next = e }

  pub put-none : {o : List ℕ} {p : ℕ} → Put base w o p [] o p
  unfolding over
  put-none {o} {p} = record { bytes = refl; next = sym (add-zero p) }

  -- what is written to the file from a position's place on, on one line
  pub put-line : {o o' bs : List ℕ} {at r' : ℕ} (p j r : ℕ) → at ≡ base + p / w * 81 + p % w → j ≡ p % w → j + length bs ≤ w → r ≡ p + length bs → Wrote o at bs o' r' → Put base w o p bs o' r
  put-line {o} {bs = bs} p j r ea ej h er x = record { bytes = x.bytes ∙ ap (λ (i : ℕ). laid o i bs) ea ∙ sym (on_line_lem base w o p bs (omega arith)); next = er }

  pub run-line : {o o' : List ℕ} {at r' : ℕ} (p j r b count : ℕ) → at ≡ base + p / w * 81 + p % w → j ≡ p % w → j + count ≤ w → r ≡ p + count → Wrote o at (replicate count b) o' r'
      → Put base w o p (replicate count b) o' r
  run-line p j r b count ea ej h er x =
      let n = length-replicate count b in
      put-line p j r ea ej (omega arith) (omega arith) x

  pub run_none : {o : List ℕ} {p : ℕ} (b count : ℕ) → count ≡ 0 → Put base w o p (replicate count b) o p
  run_none b count e = rw e put-none

  pub then : {o o' o'' a b : List ℕ} {p r r' : ℕ} → Put base w o p a o' r → Put base w o' r b o'' r' → Put base w o p (a ++ b) o'' r'
  then {o} {o'} {o''} {a} {b} {p} {r} {r'} x y = record {
    bytes = y.bytes ∙ (rw (x.bytes, x.next) (over-over base w o p a b));
    next = y.next ∙ (rw (x.next, length-append) (add_assoc p (length a) (length b)));
  }

  pub put-length : {o o' a : List ℕ} {p r : ℕ} → Put base w o p a o' r → length o' ≡ length o
  put-length {o} {o'} {a} {p} x = ap length x.bytes ∙ length_over base w o p a

  pub put-more : {o o' o'' : List ℕ} {p r r' : ℕ} (s : List ℕ) (i : ℕ) → Put base w o p (take i s) o' r → i < length s → Put base w o' r (get_or s i 0 ∷ []) o'' r' → Put base w o p (take (i + 1) s) o'' r'
  put-more s i x h y = rw (add-one, take-suc s i 0 h) (then x y)

  pub put_all_of : {o o' : List ℕ} {p r : ℕ} (s : List ℕ) (i : ℕ) → Put base w o p (take i s) o' r → length s ≤ i → Put base w o p s o' r
  put_all_of s i x h = rw (take_all i s h) at x

  pub run_more : {o o' o'' : List ℕ} {p r r' b : ℕ} (i : ℕ) → Put base w o p (replicate i b) o' r → Put base w o' r (b ∷ []) o'' r' → Put base w o p (replicate (i + 1) b) o'' r'
  run_more {b = b} i x y = rw (← replicate-append-replicate i 1 b) (then x y)

  pub run_all : {o o' : List ℕ} {p r : ℕ} (b i count : ℕ) → Put base w o p (replicate i b) o' r → i ≤ count → count ≤ i → Put base w o p (replicate count b) o' r
  run_all b i count x h k = let e : count ≡ i = omega arith in rw e x

-- ---- a loop that writes: what is still owed is cs

pub record Owed (base w : ℕ) (o : List ℕ) (p : ℕ) (bs : List ℕ) (o' : List ℕ) (r : ℕ) (cs : List ℕ) : Type 0 where
  pub bytes : over base w o' r cs ≡ over base w o p bs
  pub next : r + length cs ≡ p + length bs

module _ {base w : ℕ} where
  pub owed_all : (o : List ℕ) (p : ℕ) (bs : List ℕ) → Owed base w o p bs o p bs
  owed_all o p bs = record { bytes = refl; next = refl }

  pub owed_less : {o o' o'' bs a cs : List ℕ} {p r r' : ℕ} → Owed base w o p bs o' r (a ++ cs) → Put base w o' r a o'' r' → Owed base w o p bs o'' r' cs
  owed_less {o} {o'} {o''} {bs} {a} {cs} {p} {r} x y = record {
    bytes = rw (y.bytes, y.next) (over-over base w o' r a cs ∙ x.bytes);
    next = omega (arith, y.next, x.next, length-append a cs);
  }

  pub owed_none : {o o' bs : List ℕ} {p r : ℕ} → Owed base w o p bs o' r [] → Put base w o p bs o' r
  unfolding over
  owed_none {r = r} x = record { bytes = x.bytes; next = sym (add-zero r) ∙ x.next }

-- ---- room for the sums

module _ (base w p : ℕ) where
  pub line-fits : p ≤ 2 ^ 41 → p / w * 81 < 2 ^ 64
  line-fits h = omega (arith, div-le_self p w)

  pub start_fits : base ≤ 2 ^ 40 → p ≤ 2 ^ 41 → base + p / w * 81 < 2 ^ 64
  start_fits k h = omega (arith, div-le_self p w)

  pub index_fits : base ≤ 2 ^ 40 → p ≤ 2 ^ 41 → 1 ≤ w → w ≤ 80 → base + p / w * 81 + p % w < 2 ^ 64
  index_fits k h l m = omega (arith, div-le_self p w, mod-lt p l)

-- n characters from p on, on one line
module _ (base w p n : ℕ) (l : 1 ≤ w) (m : w ≤ 80) (h : p + n ≤ 2 ^ 41) where
  pub row_fits : {j : ℕ} → j ≡ p % w → j + n < 2 ^ 64
  row_fits e = omega (arith, mod-lt p l)

  pub row_index_fits : base ≤ 2 ^ 40 → base + p / w * 81 + p % w < 2 ^ 64
  row_index_fits k = omega (arith, index_fits base w p k (omega arith) l m)

  module _ {at : ℕ} (e : at ≡ base + p / w * 81 + p % w) (k : base ≤ 2 ^ 40) where
    pub row-start : at < 2 ^ 62
    row-start = omega (arith, div-le_self p w, mod-lt p l)

    pub row-end : at + n < 2 ^ 64
    row-end = omega (arith, div-le_self p w, mod-lt p l)

module _ (w p n : ℕ) {j : ℕ} (e : j ≡ p % w) where
  pub column_fits : 1 ≤ w → w ≤ 80 → n ≤ 2 ^ 40 → j + n < 2 ^ 64
  column_fits l m h = omega (arith, mod-lt p l)

  pub column_in : 1 ≤ w → j ≤ w
  column_in l = omega (arith, mod-lt p l)

  pub gap-none : j + n ≤ w → 0 ≡ gap w p n
  unfolding gap
  gap-none h = simp (le-leb (p % w + n) w (rw e at h))

  pub gap_some : w < j + n → w - j ≡ gap w p n
  unfolding gap
  gap_some h = rw e (simp (lt-leb (p % w + n) w (rw e at h)))

  pub gap_small : w ≤ 80 → w - j ≤ 80
  gap_small h = omega arith

pub last_true : (last : Bool) → last ≡ true → 59 ≡ delimiter last
last_true last e = rw e

pub last_false : (last : Bool) → last ≡ false → 44 ≡ delimiter last
last_false last e = rw e

pub ruleset puts = (put_one, put_out, put-line, run-line, run_none, row_fits, row_index_fits, row-start, row-end, put-none, then, put-length, put-more, put_all_of, run_more, run_all, line-fits, start_fits, index_fits, column_fits, column_in, gap-none, gap_some, gap_small, last_true, last_false)

-- ---- a string's characters and the delimiter

module _ {base w p r x : ℕ} {o o' : List ℕ} (src : List ℕ) (last : Bool) {v : Value} (ex : x ≡ delimiter last) where
  pub tail_default : v ≡ Default → Put base w o p (x ∷ []) o' r → Put base w o p (chars src v ++ (delimiter last ∷ [])) o' r
  tail_default e y = rw (e, ← ex) y

  pub tail_whole : {neg : Bool} {size : ℕ} → v ≡ Whole neg size → Put base w o p (x ∷ []) o' r → Put base w o p (chars src v ++ (delimiter last ∷ [])) o' r
  tail_whole e y = rw (e, ← ex) y

  pub tail_real : {neg : Bool} {m : ℕ} {eneg : Bool} {e : ℕ} {double : Bool} → v ≡ Real neg m eneg e double → Put base w o p (x ∷ []) o' r
      → Put base w o p (chars src v ++ (delimiter last ∷ [])) o' r
  tail_real e y = rw (e, ← ex) y

  pub tail-text : {o1 : List ℕ} {q start count : ℕ} → v ≡ Text start count → Put base w o p (take (start + count - start) (drop start src)) o1 q → Put base w o1 q (x ∷ []) o' r
      → Put base w o p (chars src v ++ (delimiter last ∷ [])) o' r
  tail-text {start = start} {count = count} e y z =
      let k : start + count - start ≡ count = omega arith in
      rw (e, ← ex) (then (rw k at y) z)

-- the part of src that holds them
module _ (src : List ℕ) {v : Value} {start count : ℕ} (e : v ≡ Text start count) (h : Writable (length src) v) where
  pub text_end_in : start + count ≤ length src
  text_end_in = text_in (length src) e h

  pub text_end_fits : length src < 2 ^ 64 → start + count < 2 ^ 64
  text_end_fits l = omega (arith, text_in (length src) e h)

  text-size : length (take (start + count - start) (drop start src)) ≤ 999
  text-size = rw length-take (omega (arith, text_few (length src) e h))

  pub text-room : (p : ℕ) → p ≤ 2 ^ 40 + 200 → p + length (take (start + count - start) (drop start src)) ≤ 2 ^ 41
  text-room p k = omega (arith, text-size)

  module _ (p q : ℕ) (n : q ≡ p + length (take (start + count - start) (drop start src))) where
    pub text-next : p ≤ 2 ^ 40 + 200 → q ≤ 2 ^ 41
    text-next k = omega (arith, text-size)

    pub text_low : {r : ℕ} → r ≡ q + 1 → p < r
    text_low i = omega arith

    pub text_high : {r : ℕ} → r ≡ q + 1 → r ≤ p + 1000
    text_high i = omega (arith, text-size)

pub ruleset tails = (tail_default, tail_whole, tail_real, put-length)

pub ruleset text_tails = (tail-text, text_end_in, text_end_fits, text-room, text-next, text_low, text_high, put-length)

-- ---- the whole piece

-- a front that was written to the start of a buffer
part : {o b bs : List ℕ} {n : ℕ} → Wrote o 0 bs b n → n ≤ length o → take n b ≡ bs
part {o} {b} {bs} {n} x h =
    let e : n ≡ length bs = x.next ∙ zero-add _ in
    let z : 0 + length bs ≤ length o = omega arith in
    rw (e, x.bytes, laid_eq o 0 bs z) (take-append_seam bs _)

part_length : {o b bs : List ℕ} {n : ℕ} → Wrote o 0 bs b n → n ≡ length bs
part_length x = x.next ∙ zero-add _

-- the characters of a value that can be written stand in its text
pub inside : (m : ℕ) (v : Value) → Writable m v → Inside m v
inside m Default h = tt
inside m (Whole neg size) h = tt
inside m (Real neg k eneg e double) h = tt
inside m (Text start count) h = h.0

-- what stands on one line is the front and one character more
pub firm-front : (t : List ℕ) (v : Value) → Inside (length t) v → firm (item_of t v) ≡ length (front v) + 1
unfolding firm spelled
firm-front t Default h = refl
firm-front t (Whole neg size) h = refl
firm-front t (Real neg m eneg e double) h = refl
firm-front t (Text start count) h =
    let n : length (take count (drop start t)) ≡ count = simp (length-take, length-drop) (omega arith) in
    ap (λ (k : ℕ). length (head k) + 1) n

pub piece-parts : (w p : ℕ) (t : List ℕ) (v : Value) (last : Bool) → Writable (length t) v
    → replicate (gap w p (length (front v) + 1)) 32 ++ (front v ++ (chars t v ++ (delimiter last ∷ []))) ≡ piece w p (item_of t v) last
unfolding piece
piece-parts w p t v last h =
    let i = inside (length t) v h in
    rw (firm-front t v i, front-chars t v i, append_assoc (front v) (chars t v) (delimiter last ∷ []))

module _ {o b : List ℕ} {n : ℕ} (v : Value) (x : Wrote o 0 (front v) b n) (h : n ≤ 44) (l : length o ≡ 64) where
  pub front_of : n ≡ length (take n b)
  front_of = rw length-take (omega (arith, wrote_length x))

  front-size : length (take n b) ≤ 44
  front-size = rw length-take (omega arith)

  module _ {base w p g q : ℕ} (m : Room base w p) (eg : q ≡ p + g) (k : g ≤ 80) where
    pub front-room : q + length (take n b) ≤ 2 ^ 41
    front-room = omega (arith, front-size)

    module _ {a : ℕ} (ea : a ≡ q + length (take n b)) where
      pub tail-room : a ≤ 2 ^ 40 + 200
      tail-room = omega (arith, front-size)

      pub piece_low : {r : ℕ} → a < r → p < r
      piece_low i = omega arith

      pub piece_high : {r : ℕ} → r ≤ a + 1000 → r ≤ p + 1200
      piece_high i = omega (arith, front-size)

  pub piece_of : {base w p g q a r : ℕ} {f f1 f2 f3 : List ℕ} (src : List ℕ) (last : Bool) → Writable (length src) v → g ≡ gap w p (n + 1) → Put base w f p (replicate g 32) f1 q
      → Put base w f1 q (take n b) f2 a → Put base w f2 a (chars src v ++ (delimiter last ∷ [])) f3 r → Put base w f p (piece w p (item_of src v) last) f3 r
  piece_of {w = w} {p = p} src last i eg y1 y2 y3 =
      let y2' = rw (part x (omega arith)) at y2 in
      rw (← (piece-parts w p src v last i), ← (part_length x), ← eg) (then y1 (then y2' y3))

pub gap-room : {base w p : ℕ} → Room base w p → (g : ℕ) → g ≤ 80 → p + g ≤ 2 ^ 41
gap-room m g k = omega arith

pub ruleset pieces = (front_of, front-room, tail-room, gap-room, put-length)

pub ruleset whole_pieces = (piece_low, piece_high, piece_of)

-- ---- the position alone

pub copied_none : {v : Value} → v ≡ Default → 0 ≡ copied v
copied_none e = rw e

pub copied_whole : {v : Value} {neg : Bool} {size : ℕ} → v ≡ Whole neg size → 0 ≡ copied v
copied_whole e = rw e

pub copied_real : {v : Value} {neg : Bool} {m : ℕ} {eneg : Bool} {e : ℕ} {double : Bool} → v ≡ Real neg m eneg e double → 0 ≡ copied v
copied_real e = rw e

pub copied-text : {v : Value} {start count : ℕ} → v ≡ Text start count → count ≡ copied v
copied-text e = rw e

pub end-parts : (w p : ℕ) (v : Value) {n g k : ℕ} → n ≡ length (front v) → g ≡ gap w p (n + 1) → k ≡ copied v → p + g + n + k + 1 ≡ piece_end w p v
unfolding piece_end
end-parts w p v en eg ek = rw (eg, ek, en)

-- what is spelled in n characters is its front and what is copied
pub end-spelled : (w p : ℕ) (v : Value) {n g k : ℕ} → n ≡ length (front v) + copied v → k ≡ copied v → g ≡ gap w p (n - k + 1) → p + g + n + 1 ≡ piece_end w p v
unfolding piece_end
end-spelled w p v {n} {g} {k} en ek eg =
    let f : n - k + 1 ≡ length (front v) + 1 = omega arith in
    rw (eg, f) (omega arith)

pub ruleset ends = (copied_none, copied_whole, copied_real, copied-text, end-parts, end-spelled)

copied-length : (t : List ℕ) (v : Value) → Inside (length t) v → length (chars t v) ≡ copied v
copied-length t Default h = refl
copied-length t (Whole neg size) h = refl
copied-length t (Real neg m eneg e double) h = refl
copied-length t (Text start count) h = simp (length-take, length-drop) (omega arith)

-- a value is spelled in so many characters
pub spelled-length : (t : List ℕ) (v : Value) → Inside (length t) v → length (spelled (item_of t v)) ≡ length (front v) + copied v
spelled-length t v h = ap length (front-chars t v h) ∙ length-append (front v) (chars t v) ∙ ap (λ (k : ℕ). length (front v) + k) (copied-length t v h)

-- a piece ends there, in whatever text a string's characters stand
pub piece_end_is : (w p : ℕ) (t : List ℕ) (v : Value) (last : Bool) → Writable (length t) v → piece_end w p v ≡ p + length (piece w p (item_of t v) last)
unfolding piece_end
piece_end_is w p t v last h =
    let n = copied-length t v (inside (length t) v h) in
    rw (← (piece-parts w p t v last h)) (simp (length-append, length-replicate) (omega arith))

pub copied_few : (m : ℕ) (v : Value) → Writable m v → copied v ≤ 999
copied_few m Default h = omega arith
copied_few m (Whole neg size) h = omega arith
copied_few m (Real neg k eneg e double) h = omega arith
copied_few m (Text start count) h = omega arith
