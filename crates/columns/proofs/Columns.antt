-- Columns of a text: one by one, of a text put together of parts, and of columns.
use mathlib.Core.Path.{◌≡◌, sym, ap, ◌∙◌}
use Prim.Native.Nat.{ℕ, zero, suc, ◌+◌, ◌-◌, ◌*◌, ◌≤◌, ◌<◌}
use native.Mathlib.Nat.{sub_self, sub-zero}
use native.Mathlib.Numerals.{add-one}
use native.Mathlib.Omega.{arith}
use mathlib.Core.List.{List, [], ◌∷◌, ◌++◌}
use lib.ListN.{length, get_or, take, drop, length-drop}
use lib.Seq.{drop-cons, drop-append-add, take_at, take_all, take-append-le, drop-append-le, get_or-take, get_or-drop, take-take, drop-drop, length-take-le, take-nil}
use Rattle.columns.specs.Columns.{columns, line_at}

-- the columns from i up to end: the next, and the rest
pub column : (s : List ℕ) (i end : ℕ) → i < end → end ≤ length s → columns s i end ≡ get_or s i 0 ∷ columns s (i + 1) end
unfolding columns
column s i end lt le =
    let e : end - i ≡ suc (end - (i + 1)) = omega arith in
    rw (e, drop-cons s i 0 lt', add-one)
  where
    lt' : i < length s
    lt' = omega arith

pub columns-none : (s : List ℕ) (i : ℕ) → columns s i i ≡ []
unfolding columns
columns-none s i = rw sub_self

pub columns-end : (s : List ℕ) (i end : ℕ) → end ≤ i → columns s i end ≡ []
unfolding columns
columns-end s i end h =
    let e : end - i ≡ 0 = omega arith in
    rw e

-- all columns
pub columns_all : (s : List ℕ) → columns s 0 (length s) ≡ s
unfolding columns
columns_all s = rw sub-zero (take_all (length s) s (omega arith))

pub columns_rest : (s : List ℕ) (i : ℕ) → columns s i (length s) ≡ drop i s
unfolding columns
columns_rest s i = take_all (length s - i) (drop i s) (simp length-drop (omega arith))

pub length-columns : (s : List ℕ) (at end : ℕ) → at ≤ end → end ≤ length s → length (columns s at end) ≡ end - at
unfolding columns
length-columns s at end h k = length-take-le (end - at) (drop at s) (simp length-drop (omega arith))

-- ---- a text that was put together: past a part of it, and a part itself

pub columns_skip : (p t : List ℕ) (n at end : ℕ) → length p ≡ n → n ≤ at → columns (p ++ t) at end ≡ columns t (at - n) (end - n)
unfolding columns
columns_skip p t n at end e h =
    let a : at ≡ length p + (at - n) = omega arith in
    let b : end - n - (at - n) ≡ end - at = omega arith in
    rw b (ap (λ (k : ℕ). take (end - at) (drop k (p ++ t))) a ∙ ap (λ (l : List ℕ). take (end - at) l) (drop-append-add p t (at - n)))

pub columns-part : (q t : List ℕ) (n : ℕ) → length q ≡ n → columns (q ++ t) 0 n ≡ q
unfolding columns
columns-part q t n e = rw sub-zero (take_at q t n e)

-- columns that lie in the first part
pub columns_first : (p t : List ℕ) (at end : ℕ) → at ≤ end → end ≤ length p → columns (p ++ t) at end ≡ columns p at end
unfolding columns
columns_first p t at end h k =
    rw (drop-append-le at p t (omega arith)) (take-append-le (end - at) (drop at p) t (simp length-drop (omega arith)))

-- ---- columns of columns

pub byte_of : (f : List ℕ) (at end i : ℕ) → at + i < end → get_or (columns f at end) i 0 ≡ get_or f (at + i) 0
unfolding columns
byte_of f at end i h = get_or-take (end - at) (drop at f) i 0 (omega arith) ∙ get_or-drop at f i 0

pub drop-take : (n k : ℕ) (l : List ℕ) → drop n (take k l) ≡ take (k - n) (drop n l)
drop-take zero k l = rw sub-zero
drop-take (suc n) zero l =
    let e : 0 - suc n ≡ 0 = omega arith in
    rw e
drop-take (suc n) (suc k) [] = sym (take-nil (suc k - suc n))
drop-take (suc n) (suc k) (x ∷ l) =
    let e : suc k - suc n ≡ k - n = omega arith in
    rw e (drop-take n k l)

pub columns_of : (f : List ℕ) (at end a b : ℕ) → a ≤ b → at + b ≤ end → columns (columns f at end) a b ≡ columns f (at + a) (at + b)
unfolding columns
columns_of f at end a b h k =
    let e : at + b - (at + a) ≡ b - a = omega arith in
    rw (e, drop-take a (end - at) (drop at f), take-take (b - a) (end - at - a) (drop a (drop at f)) (omega arith), drop-drop)

-- ---- a line of a file

pub line-byte : (f : List ℕ) (k i : ℕ) → i < 81 → get_or (line_at f k) i 0 ≡ get_or f (81 * k + i) 0
unfolding line_at
line-byte f k i h = byte_of f (81 * k) (81 * k + 81) i (omega arith)

pub line-columns : (f : List ℕ) (k a b : ℕ) → a ≤ b → b ≤ 81 → columns (line_at f k) a b ≡ columns f (81 * k + a) (81 * k + b)
unfolding line_at
line-columns f k a b h l = columns_of f (81 * k) (81 * k + 81) a b h (omega arith)

pub length-line : (f : List ℕ) (k : ℕ) → 81 * k + 81 ≤ length f → length (line_at f k) ≡ 81
unfolding line_at
length-line f k h = length-columns f (81 * k) (81 * k + 81) (omega arith) h ∙ omega arith
