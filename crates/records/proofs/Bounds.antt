-- What is read keeps its limits, stands in the text and ends behind its start: `sane`; behind it, what callers of `value_at` and `check_from` need of
-- that. Assumes nothing.
use mathlib.Core.Path.{◌≡◌, refl}
use mathlib.Core.Bool.{Bool, true, false, cond, ◌&&◌}
use mathlib.Core.List.{List, [], ◌∷◌}
use Prim.Native.Nat.{ℕ, suc, ◌+◌, ◌-◌, ◌%◌, ◌≤◌, ◌<◌}
use native.Mathlib.Omega.{arith}
use lib.ListN.{length, get_or, drop, take, length-drop, length-take}
use lib.Dec.{leb, eqb}
use borrow.Author.Tests.{eqb-true, leb-true}
use Rattle.std.specs.Prelude.{Result, Ok, Err}
use Rattle.columns.specs.declared.Fault.TheVariants.{Spelling}
use Rattle.values.specs.declared.Number.{Number}
use Rattle.values.specs.declared.Number.TheVariants.{Whole as WholeOf, Real as RealOf, Beyond, Bad}
use Rattle.values.specs.declared.Head.{Head}
use Rattle.values.specs.declared.Head.TheVariants.{Count, Plain}
use Rattle.values.specs.declared.Value.{Value}
use Rattle.values.specs.declared.Value.TheVariants.{Whole, Real, Text}
use Rattle.values.specs.Number.{digits, value, number_of}
use Rattle.values.specs.Head.{head_of}
use Rattle.values.specs.Reading.{Within}
use Rattle.values.proofs.Laws.{three}
use Rattle.values.proofs.Digits.{digits_ds, value-below}
use Rattle.values.proofs.Ends.{inside, ends}
use Rattle.values.proofs.Canon.{Canon, FineHead, head_fine}
use Rattle.values.proofs.Sizes.{sizes}
use Rattle.values.proofs.Heads.{within_more}
use Rattle.records.specs.declared.Next.{Next}
use Rattle.records.specs.declared.Next.TheVariants.{Delimiter, Other}
use Rattle.records.specs.declared.Found.{Found}
use Rattle.records.specs.declared.Misspelt.{Misspelt}
use Rattle.records.specs.declared.Check.{Check}
use Rattle.records.specs.Record.{Got, refused_at, blanks, next_at, found, plain, headed, by_next, value_at}
use Rattle.records.specs.Reading.{Writable, Sane, SaneCheck}

-- ---- heads

-- a head ends within its line
pub head-within : (l : List ℕ) → Within (length l) (head_of l)
unfolding head_of
head-within l = pick (eqb (get_or l (length (digits l)) 0) 72) (leb (length (digits l)) 3) (leb 1 (value 0 (digits l))) refl refl
  where
    pick : (a b c : Bool) → eqb (get_or l (length (digits l)) 0) 72 ≡ a → leb (length (digits l)) 3 ≡ b
        → Within (length l) (cond (a && (b && c)) (Count (value 0 (digits l)) (length (digits l) + 1)) (Plain (number_of l)))
    pick true true true e f =
        let n = length (digits l) in
        let i = inside l n (omega (arith, eqb-true (get_or l n 0) 72 e)) in
        (omega (arith, three (value 0 (digits l)) n (value-below (digits_ds l)) (leb-true n 3 f)), omega arith)
    pick true true false e f = (ends l).0
    pick true false c e f = (ends l).0
    pick false b c e f = (ends l).0

pub within : (l : List ℕ) (m : ℕ) → length l ≤ m → Within m (head_of l)
within l m h = within_more (length l) m (head_of l) h (head-within l)

-- ---- what stands behind the blanks

blanks_few : (l : List ℕ) → blanks l ≤ length l
blanks_few [] = omega arith
blanks_few (x ∷ xs) = pick (eqb x 32) (blanks_few xs)
  where
    pick : (b : Bool) → blanks xs ≤ length xs → cond b (suc (blanks xs)) 0 ≤ suc (length xs)
    pick true h = omega arith
    pick false h = omega arith

pub blanks_in : (t : List ℕ) (p : ℕ) → p ≤ length t → p + blanks (drop p t) ≤ length t
blanks_in t p h = omega (arith, blanks_few (drop p t), length-drop p t)

-- it stands from p on, a delimiter before m
abbrev Stop : ℕ → ℕ → Next → Type 0
Stop p m (Delimiter at last) = (p ≤ at) × (at < m)
Stop p m (Other at) = (p ≤ at) × (at ≤ m)

found_sane : (p e m : ℕ) (v : Value) (s : ℕ) (n : Next) → p ≤ s → s ≤ e → Writable m v → Stop e m n → Sane p m (found v s n)
found_sane p e m v s (Delimiter at last) h k f n = (h, omega arith, omega arith, f)
found_sane p e m v s (Other at) h k f n = (h, omega arith, omega arith)

module _ (w c d : ℕ) (t : List ℕ) (pc : 0 < c) (pd : 0 < d) where
  stop : (p : ℕ) → p ≤ length t → Stop p (length t) (next_at c d t p)
  unfolding next_at
  stop p h = pick (eqb (get_or t (p + blanks (drop p t)) 0) c) (eqb (get_or t (p + blanks (drop p t)) 0) d) refl refl
    where
      pick : (a b : Bool) → eqb (get_or t (p + blanks (drop p t)) 0) c ≡ a → eqb (get_or t (p + blanks (drop p t)) 0) d ≡ b
          → Stop p (length t) (cond a (Delimiter (p + blanks (drop p t)) false) (cond b (Delimiter (p + blanks (drop p t)) true) (Other (p + blanks (drop p t)))))
      pick true b e f = (omega arith, inside t (p + blanks (drop p t)) (omega (arith, eqb-true (get_or t (p + blanks (drop p t)) 0) c e)))
      pick false true e f = (omega arith, inside t (p + blanks (drop p t)) (omega (arith, eqb-true (get_or t (p + blanks (drop p t)) 0) d f)))
      pick false false e f = (omega arith, blanks_in t p h)

  plain_sane : (p s e : ℕ) (n : Next) (k : Number) → p ≤ s → s ≤ e → e ≤ length t → Canon k → Stop e (length t) n → Sane p (length t) (plain s e n k)
  plain_sane p s e n (WholeOf neg size) h k i f o = found_sane p e (length t) (Whole neg size) s n h k f.0 o
  plain_sane p s e n (RealOf neg m eneg x double) h k i f o = found_sane p e (length t) (Real neg m eneg x double) s n h k (sizes f) o
  plain_sane p s e (Delimiter at last) Beyond h k i f o = (h, omega arith, omega arith)
  plain_sane p s e (Other at) Beyond h k i f o = (h, omega arith, omega arith)
  plain_sane p s e n Bad h k i f o = (h, k, i)

  headed_sane : (p s : ℕ) (h : Head) → p ≤ s → s ≤ length t → FineHead h → Within (length t - s) h → Sane p (length t) (headed c d t s h)
  headed_sane p s (Plain k) l i f k' =
      let e : s + k.len ≤ length t = omega arith in
      plain_sane p s (s + k.len) (next_at c d t (s + k.len)) k.number l (omega arith) e f (stop (s + k.len) e)
  headed_sane p s (Count count len) l i f k' = pick (leb (s + len + count) (length t)) refl
    where
      pick : (b : Bool) → leb (s + len + count) (length t) ≡ b
          → Sane p (length t) (cond b (found (Text (s + len) count) s (next_at c d t (s + len + count))) (refused_at Spelling s (length t)))
      pick true e =
          let k : s + len + count ≤ length t = leb-true (s + len + count) (length t) e in
          found_sane p (s + len + count) (length t) (Text (s + len) count) s (next_at c d t (s + len + count)) l (omega arith) (k, f.0, f.1) (stop (s + len + count) k)
      pick false e = (l, i, omega arith)

  next_sane : (p : ℕ) (n : Next) → Stop p (length t) n → Sane p (length t) (by_next w c d t n)
  next_sane p (Delimiter at last) h = (h.0, omega arith, omega arith, tt)
  next_sane p (Other s) h =
      let l = take (w - s % w) (drop s t) in
      headed_sane p s (head_of l) h.0 h.1 (head_fine l) (within l (length t - s) (simp (length-take, length-drop) (omega arith)))

  pub sane : (p : ℕ) → p ≤ length t → Sane p (length t) (value_at w c d t p)
  unfolding value_at
  sane p h = next_sane p (next_at c d t p) (stop p h)

-- ---- what a caller has in hand of a value

module _ (p m : ℕ) {g : Got} where
  module _ {x : Found} (e : g ≡ Ok x) (h : Sane p m g) where
    parts : (p ≤ x.start) × (x.start < x.next) × (x.next ≤ m) × Writable m x.value
    parts = rw e at h

    pub next_more : p < x.next
    next_more = omega (arith, parts)

    pub next_less : m - x.next < m - p
    next_less = omega (arith, parts)

    pub next_in : x.next ≤ m
    next_in = omega (arith, parts)

    pub can_write : Writable m x.value
    can_write = parts.3

  module _ {x : Misspelt} (e : g ≡ Err x) (h : Sane p m g) where
    wrongs : (p ≤ x.start) × (x.start ≤ x.at) × (x.at ≤ m)
    wrongs = rw e at h

    pub wrong-from : p ≤ x.start
    wrong-from = wrongs.0

    pub wrong-at : x.at ≤ m
    wrong-at = wrongs.2

    pub wrong-behind : x.start ≤ x.at
    wrong-behind = wrongs.1

-- ---- of a value that can be written

module _ (m : ℕ) {v : Value} where
  pub text_in : {start count : ℕ} → v ≡ Text start count → Writable m v → start + count ≤ m
  text_in e h = (rw e at h).0

  pub text_few : {start count : ℕ} → v ≡ Text start count → Writable m v → count ≤ 999
  text_few e h = (rw e at h).2

-- ---- and of a whole record

module _ (p m : ℕ) {r : Result Check Misspelt} where
  module _ {x : Check} (e : r ≡ Ok x) (h : SaneCheck p m r) where
    done : (1 ≤ x.count) × (x.kept ≤ x.count) × (p + x.count ≤ x.end) × (x.end ≤ m)
    done = rw e at h

    pub done_count : p + x.count ≤ x.end
    done_count = done.2

    pub done_end : x.end ≤ m
    done_end = done.3

  module _ {x : Misspelt} (e : r ≡ Err x) (h : SaneCheck p m r) where
    failed : (p ≤ x.start) × (x.start ≤ x.at) × (x.at ≤ m)
    failed = rw e at h

    pub failed_start : x.start ≤ m
    failed_start = omega (arith, failed)
