-- What is written of a list of values is read as those values: `round_at`. The position is all that a piece knows of what stands before it, so
-- this is one induction over `drop p t ≡ flow w p vs ++ r`. Assumes nothing.
use mathlib.Core.Path.{◌≡◌, refl, sym, ap, ◌∙◌}
use mathlib.Core.Bool.{Bool, true, false, cond}
use mathlib.Core.List.{List, [], ◌∷◌, ◌++◌, append_assoc, append-nil}
use Prim.Native.Nat.{ℕ, zero, suc, ◌+◌, ◌-◌, ◌%◌, ◌≤◌, ◌<◌}
use native.Mathlib.Nat.{zero-add, add-zero, mod-lt, mod_self, mod-add-mod}
use native.Mathlib.Omega.{arith}
use lib.ListN.{length, get_or, drop, take, replicate, length-append, length-drop, length-replicate}
use lib.Seq.{take-append-add, take-append_seam, drop-append_seam}
use lib.Dec.{leb, eqb}
use borrow.Author.Tests.{le-leb, leb-true, ne_eqb}
use Rattle.columns.specs.Columns.{printable}
use Rattle.columns.proofs.Looks.{print_both, print_replicate}
use Rattle.columns.proofs.Tests.{true_false}
use Rattle.values.specs.declared.Number.{Number}
use Rattle.values.specs.declared.Value.{Value}
use Rattle.values.specs.declared.Value.TheVariants.{Default, Whole, Real, Text}
use Rattle.values.specs.Number.{joins}
use Rattle.values.specs.Value.{Item, default, whole, real, text, item_of, head, spelled, Fine, fine_default, fine_whole, fine_real, fine_text, Printed}
use Rattle.values.proofs.Digits.{next, here}
use Rattle.values.proofs.Canon.{is_whole, is_real}
use Rattle.values.proofs.Round.{round_head, head-joins, Spells, round as round_number}
use Rattle.values.proofs.Sizes.{number_short, head_short, print_spelled}
use Rattle.records.specs.declared.Next.TheVariants.{Delimiter, Other}
use Rattle.records.specs.Record.{found_at, blanks, mark, next_at, plain, value_at, values, more, values_from, values_at}
use Rattle.records.specs.Global.{may_delimit, opens, opened, record_delimiter, opening_of, canonical_opening}
use Rattle.records.specs.Flow.{firm, gap, delimiter, piece, none, flow, Fines, fine_one, fine_more, Prints}

-- ---- lists

-- the first m of what begins with x
first_among_lem : (x y : List ℕ) (m : ℕ) → length x ≤ m → take m (x ++ y) ≡ x ++ take (m - length x) y
first_among_lem x y m h =
    let e : m ≡ length x + (m - length x) = omega arith in
    ap (λ (k : ℕ). take k (x ++ y)) e ∙ take-append-add x y (m - length x)

blanks-of : (n : ℕ) (q : List ℕ) → eqb (get_or q 0 0) 32 ≡ false → blanks (replicate n 32 ++ q) ≡ n
blanks-of zero [] h = refl
blanks-of zero (x ∷ q) h = rw h
blanks-of (suc n) q h = ap suc (blanks-of n q h)

-- ---- gaps

-- n characters stand on one line behind the gap
gap-fits : (w p n : ℕ) → n ≤ w → 0 < w → (p + gap w p n) % w + n ≤ w
unfolding gap
gap-fits w p n h k = pick (leb (p % w + n) w) refl
  where
    pick : (b : Bool) → leb (p % w + n) w ≡ b → (p + cond b 0 (w - p % w)) % w + n ≤ w
    pick true e = rw add-zero (leb-true (p % w + n) w e)
    pick false e =
        let l = mod-lt p k in
        let f : p % w + (w - p % w) ≡ w = omega arith in
        let z : (p + (w - p % w)) % w ≡ 0 = sym (mod-add-mod p w (w - p % w)) ∙ ap (λ (x : ℕ). x % w) f ∙ mod_self w in
        rw z (omega arith)

-- ---- the first character of a value that is given: no blank and no delimiter

record Start (x : ℕ) : Type 0 where
  pub other : (s : ℕ) → mark 44 59 x s ≡ Other s
  pub ink : eqb x 32 ≡ false

apart : (x k : ℕ) → joins x ≡ true → joins k ≡ false → x ≡ k → ⊥
apart x k h z e = true_false h (ap joins e ∙ z)

starts : (x : ℕ) → joins x ≡ true → Start x
starts x h = record {
  other = λ s. simp (ne_eqb x 44 (apart x 44 h refl), ne_eqb x 59 (apart x 59 h refl));
  ink = ne_eqb x 32 (apart x 32 h refl);
}

delimiter-mark : (last : Bool) (s : ℕ) → (mark 44 59 (delimiter last) s ≡ Delimiter s last) × (eqb (delimiter last) 32 ≡ false)
delimiter-mark true s = (refl, refl)
delimiter-mark false s = (refl, refl)

delimiter_stops : (last : Bool) → joins (delimiter last) ≡ false
delimiter_stops true = refl
delimiter_stops false = refl

-- ---- one value

module _ (w : ℕ) (t : List ℕ) where
  -- blanks, and then q
  next-at : (p n : ℕ) (q : List ℕ) → drop p t ≡ replicate n 32 ++ q → eqb (get_or q 0 0) 32 ≡ false → next_at 44 59 t p ≡ mark 44 59 (get_or q 0 0) (p + n)
  unfolding next_at
  next-at p n q e h =
      let b : blanks (drop p t) ≡ n = ap blanks e ∙ blanks-of n q h in
      let g : drop (p + n) t ≡ q = ap (λ (k : ℕ). drop (p + k) t) (sym (length-replicate n 32)) ∙ next t p (replicate n 32) q e in
      rw (b, here t (p + n) q g)

  -- a delimiter stands at e
  at-delimiter : (e : ℕ) (last : Bool) (r : List ℕ) → drop e t ≡ delimiter last ∷ r → next_at 44 59 t e ≡ Delimiter e last
  at-delimiter e last r h = next-at e 0 (delimiter last ∷ r) h (delimiter-mark last e).1 ∙ ap (λ (k : ℕ). mark 44 59 (delimiter last) k) (add-zero e) ∙ (delimiter-mark last e).0

  module _ (p s : ℕ) (last : Bool) (r : List ℕ) (n : next_at 44 59 t p ≡ Other s) where
    number_at : {x : List ℕ} {k : Number} → Spells x k → drop s t ≡ x ++ (delimiter last ∷ r) → s % w + (length x + 1) ≤ w
        → value_at w 44 59 t p ≡ plain s (s + length x) (Delimiter (s + length x) last) k
    unfolding value_at
    number_at {x} {k} sp e f =
        let m = w - s % w in
        let q = delimiter last ∷ take (m - length (x ++ (delimiter last ∷ []))) r in
        let l : take m (drop s t) ≡ x ++ q =
        ap (λ (y : List ℕ). take m y) (e ∙ sym (append_assoc x (delimiter last ∷ []) r)) ∙ first_among_lem (x ++ (delimiter last ∷ [])) r m (simp length-append (omega arith))
        ∙ append_assoc x (delimiter last ∷ []) _ in
        rw (n, l, sp.head q (delimiter_stops last), at-delimiter (s + length x) last r (next t s x (delimiter last ∷ r) e))

    text_at : (bs : List ℕ) → 1 ≤ length bs → length bs ≤ 999 → drop s t ≡ head (length bs) ++ (bs ++ (delimiter last ∷ r))
        → s % w + (length (head (length bs)) + 1) ≤ w
        → value_at w 44 59 t p ≡ found_at (Text (s + length (head (length bs))) (length bs)) s (s + length (head (length bs)) + length bs + 1) last
    unfolding value_at
    text_at bs lo hi e f =
        let m = w - s % w in
        let count = length bs in
        let hd = head count in
        let at = s + length hd in
        let q = bs ++ (delimiter last ∷ r) in
        let l : take m (drop s t) ≡ hd ++ take (m - length hd) q = ap (λ (y : List ℕ). take m y) e ∙ first_among_lem hd q m (omega arith) in
        let b : drop at t ≡ q = next t s hd q e in
        let d : drop (at + count) t ≡ delimiter last ∷ r = next t at bs (delimiter last ∷ r) b in
        let o : at + count ≤ length t = omega (arith, ap length b, length-drop at t, length-append bs (delimiter last ∷ r)) in
        rw (n, l, round_head count lo hi, at-delimiter (at + count) last r d) (simp (le-leb (at + count) (length t) o))

-- ---- a piece

-- what is found of a value that starts at s
abbrev value_of : Item → ℕ → Value
value_of default s = Default
value_of (whole neg size) s = Whole neg size
value_of (real neg m eneg e double) s = Real neg m eneg e double
value_of (text bs) s = Text (s + length (head (length bs))) (length bs)

module _ (w : ℕ) (big : 25 ≤ w) (t : List ℕ) (p : ℕ) (last : Bool) (r : List ℕ) where
  One : Item → Type 0
  One v = (value_at w 44 59 t p ≡ found_at (value_of v (p + gap w p (firm v))) (p + gap w p (firm v)) (p + length (piece w p v last)) last) × (item_of t (value_of v (p + gap w p (firm v))) ≡ v)

  module _ (g : ℕ) (x : List ℕ) (e : drop p t ≡ (replicate g 32 ++ (x ++ (delimiter last ∷ []))) ++ r) where
    parted : drop p t ≡ replicate g 32 ++ (x ++ (delimiter last ∷ r))
    parted = e ∙ simp append_assoc

    from-gap : drop (p + g) t ≡ x ++ (delimiter last ∷ r)
    from-gap = rw length-replicate at (next t p (replicate g 32) (x ++ (delimiter last ∷ r)) parted)

    to_end : p + g + length x + 1 ≡ p + length (replicate g 32 ++ (x ++ (delimiter last ∷ [])))
    to_end = simp (length-append, length-replicate) (omega arith)

    other : Start (get_or (x ++ (delimiter last ∷ r)) 0 0) → next_at 44 59 t p ≡ Other (p + g)
    other f = next-at w t p g (x ++ (delimiter last ∷ r)) parted f.ink ∙ f.other (p + g)

  number-piece : {x : List ℕ} {k : Number} → Spells x k → length x ≤ 24 → drop p t ≡ (replicate (gap w p (length x + 1)) 32 ++ (x ++ (delimiter last ∷ []))) ++ r
      → value_at w 44 59 t p ≡ plain (p + gap w p (length x + 1)) (p + gap w p (length x + 1) + length x) (Delimiter (p + gap w p (length x + 1) + length x) last) k
  number-piece {x} sp l e =
      let g = gap w p (length x + 1) in
      number_at w t p (p + g) last r (other g x e (starts _ (sp.first (delimiter last ∷ r)))) sp (from-gap g x e) (gap-fits w p (length x + 1) (omega arith) (omega arith))

  one_value : {v : Item} → Fine v → drop p t ≡ piece w p v last ++ r → One v
  unfolding One piece firm spelled value_at
  one_value fine_default e =
      let g = gap w p 1 in
      let n : next_at 44 59 t p ≡ Delimiter (p + g) last = next-at w t p g (delimiter last ∷ r) (parted g [] e) (delimiter-mark last 0).1 ∙ (delimiter-mark last (p + g)).0 in
      let k : p + g + 1 ≡ p + g + 0 + 1 = omega arith in
      (rw n (ap (λ (k : ℕ). found_at Default (p + g) k last) (k ∙ to_end g [] e)), refl)
  one_value (fine_whole neg size h z) e =
      let x = spelled (whole neg size) in
      let g = gap w p (length x + 1) in
      (number-piece (round_number is_whole (fine_whole neg size h z)) (number_short is_whole (fine_whole neg size h z)) e ∙ ap (λ (k : ℕ). found_at (Whole neg size) (p + g) k last) (to_end g x e), refl)
  one_value (fine_real {neg} {m} {eneg} {e} ok double) h =
      let x = spelled (real neg m eneg e double) in
      let g = gap w p (length x + 1) in
      (number-piece (round_number is_real (fine_real ok double)) (number_short is_real (fine_real ok double)) h ∙ ap (λ (k : ℕ). found_at (Real neg m eneg e double) (p + g) k last) (to_end g x h), refl)
  one_value (fine_text bs lo hi) e =
      let hd = head (length bs) in
      let g = gap w p (length hd + 1) in
      let x = hd ++ bs in
      let f : drop (p + g) t ≡ hd ++ (bs ++ (delimiter last ∷ r)) = from-gap g x e ∙ append_assoc hd bs (delimiter last ∷ r) in
      let n : next_at 44 59 t p ≡ Other (p + g) = other g x e (rw (append_assoc hd bs (delimiter last ∷ r)) (starts _ (head-joins (length bs) _))) in
      let k : p + g + length hd + length bs + 1 ≡ p + g + length x + 1 = simp length-append (omega arith) in (
        text_at w t p (p + g) last r n bs lo hi f (gap-fits w p (length hd + 1) (omega (arith, head_short (length bs) hi)) (omega arith)) ∙ ap (λ (k : ℕ). found_at (Text (p + g + length hd) (length bs)) (p + g) k last) (k ∙ to_end g x e),
        ap text (ap (λ (y : List ℕ). take (length bs) y) (next t (p + g) hd _ f) ∙ take-append_seam bs (delimiter last ∷ r)),
      )

-- ---- the record

module _ (w : ℕ) (big : 25 ≤ w) (t : List ℕ) where
  last_value : (k p : ℕ) {v : Value} {s n : ℕ} → value_at w 44 59 t p ≡ found_at v s n true → values_from (suc k) w 44 59 t p ≡ values (item_of t v ∷ []) n
  unfolding values_from
  last_value k p e = rw (values_from, e)

  more-value : (k p : ℕ) {v : Value} {s n : ℕ} → value_at w 44 59 t p ≡ found_at v s n false → values_from (suc k) w 44 59 t p ≡ more (item_of t v) (values_from k w 44 59 t n)
  unfolding values_from
  more-value k p e = rw (values_from, e)

  from : (k p : ℕ) (r : List ℕ) {vs : List Item} → Fines vs → length vs ≤ k → drop p t ≡ flow w p vs ++ r → values_from k w 44 59 t p ≡ values vs (p + length (flow w p vs))
  unfolding flow One
  from zero p r (fine_one f) l e = absurd (omega arith)
  from zero p r (fine_more f g) l e = absurd (omega arith)
  from (suc k) p r (fine_one {v} f) l e =
      let x = piece w p v true in
      let o = one_value w big t p true r f (rw append-nil at e) in
      last_value k p o.0 ∙ rw (o.1, append-nil)
  from (suc k) p r (fine_more {v} {u} {vs} f g) l e =
      let x = piece w p v false in
      let y = flow w (p + length x) (u ∷ vs) in
      let e2 : drop p t ≡ x ++ (y ++ r) = e ∙ append_assoc x y r in
      let o = one_value w big t p false (y ++ r) f e2 in
      let ih = from k (p + length x) r g (omega arith) (next t p x (y ++ r) e2) in
      let n : p + length x + length y ≡ p + length (x ++ y) = simp length-append (omega arith) in
      more-value k p o.0 ∙ ap (λ (i : Item). more i (values_from k w 44 59 t (p + length x))) o.1 ∙ ap (more v) ih ∙ ap (values (v ∷ (u ∷ vs))) n

-- a piece is its gap, its spelling and its delimiter
pub length-piece : (w p : ℕ) (v : Item) (last : Bool) → length (piece w p v last) ≡ gap w p (firm v) + length (spelled v) + 1
unfolding piece
length-piece w p v last = sum (gap w p (firm v)) (spelled v) (delimiter last)
  where
    sum : (g : ℕ) (x : List ℕ) (b : ℕ) → length (replicate g 32 ++ (x ++ (b ∷ []))) ≡ g + length x + 1
    sum g x b = simp (length-append, length-replicate) (omega arith)

-- a flow is of bytes that a line may hold, if the strings are
print_delimiter : (last : Bool) → printable (delimiter last ∷ []) ≡ true
unfolding printable
print_delimiter true = refl
print_delimiter false = refl

pub print_piece : (w p : ℕ) (v : Item) (last : Bool) → Printed v → printable (piece w p v last) ≡ true
unfolding piece
print_piece w p v last h =
    print_both (replicate (gap w p (firm v)) 32) (spelled v ++ (delimiter last ∷ [])) (print_replicate (gap w p (firm v)) 32 (omega arith) (omega arith))
    (print_both (spelled v) (delimiter last ∷ []) (print_spelled v h) (print_delimiter last))

pub print_flow : (w p : ℕ) (vs : List Item) → Prints vs → printable (flow w p vs) ≡ true
unfolding flow printable
print_flow w p [] h = refl
print_flow w p (v ∷ vs) h =
    let x = piece w p v (none vs) in
    print_both x (flow w (p + length x) vs) (print_piece w p v (none vs) h.0) (print_flow w (p + length x) vs h.1)

-- each value takes a character at least
pub length-flow : (w p : ℕ) (vs : List Item) → length vs ≤ length (flow w p vs)
unfolding flow
length-flow w p [] = omega arith
length-flow w p (v ∷ vs) =
    let x = piece w p v (none vs) in
    omega (arith, length-append x (flow w (p + length x) vs), length-piece w p v (none vs), length-flow w (p + length x) vs)

-- a flow that stands in a text from p on is read as its values; what stands behind it, blanks or anything else, is not looked at
pub round_at : (w : ℕ) → 25 ≤ w → (t : List ℕ) (p : ℕ) {vs : List Item} → Fines vs → (r : List ℕ) → drop p t ≡ flow w p vs ++ r
    → values_at w 44 59 t p ≡ values vs (p + length (flow w p vs))
unfolding values_at
round_at w big t p {vs} f r e = from w big t (suc (length t)) p r f (omega (arith, length-flow w p vs, ap length e, length-drop p t, length-append (flow w p vs) r)) e

-- behind any text
pub round_behind : (w : ℕ) → 25 ≤ w → (a : List ℕ) {vs : List Item} → Fines vs → (r : List ℕ)
    → values_at w 44 59 (a ++ (flow w (length a) vs ++ r)) (length a) ≡ values vs (length a + length (flow w (length a) vs))
round_behind w big a {vs} f r = round_at w big (a ++ (flow w (length a) vs ++ r)) (length a) f r (drop-append_seam a (flow w (length a) vs ++ r))

pub round : (w : ℕ) → 25 ≤ w → {vs : List Item} → Fines vs → (r : List ℕ) → values_at w 44 59 (flow w 0 vs ++ r) 0 ≡ values vs (length (flow w 0 vs))
round w big {vs} f r = round_at w big (flow w 0 vs ++ r) 0 f r refl ∙ ap (values vs) (zero-add _)

-- ---- the opening

pub opening_round : (last : Bool) (r : List ℕ) → opening_of (canonical_opening last ++ r) ≡ opens 44 59 8 last
unfolding opening_of canonical_opening record_delimiter opened may_delimit
opening_round true r = refl
opening_round false r = refl

pub opening-length : (last : Bool) → length (canonical_opening last) ≡ 8
unfolding canonical_opening
opening-length last = refl
