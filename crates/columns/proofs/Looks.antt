-- What stands in columns: the loops that look, and what their answers mean.
use mathlib.Core.Path.{◌≡◌, refl, sym, ap, ◌∙◌}
use mathlib.Core.Bool.{Bool, true, false, ◌&&◌}
use Prim.Native.Nat.{ℕ, zero, suc, ◌+◌, ◌-◌, ◌≤◌, ◌<◌, min, max}
use native.Mathlib.Numerals.{add-one}
use native.Mathlib.Omega.{arith}
use mathlib.Core.List.{List, [], ◌∷◌, ◌++◌}
use lib.ListN.{length, get_or, take, drop, replicate, take-append-drop}
use lib.Seq.{drop-cons}
use Rattle.std.proofs.lemmas.List.{drop_all}
use lib.Dec.{leb, eqb}
use borrow.Author.Tests.{le-leb, lt-leb, eq-eqb, eqb-true, leb-true, leb-false}
use Rattle.std.specs.Prelude.{nat_eq, ◌==◌}
use Rattle.std.specs.List.{list_all}
use lib.Pointwise.{pointwise}
use Rattle.columns.specs.Columns.{columns, printable, blank, same_bytes}
use Rattle.columns.proofs.Tests.{both, both_left, both_right, both_true, and_true, and_assoc}

-- ---- columns as a slice: the rest of it behind the bytes passed

pub sliced : (s : List ℕ) (at end : ℕ) → take (end - at) (drop at s) ≡ columns s at end
unfolding columns
sliced s at end = refl

-- what `all` answers of a slice, of its columns
all_blank : (s : List ℕ) → list_all (λ b. b == 32) s ≡ blank s
unfolding blank
all_blank [] = refl
all_blank (b ∷ s) = rw (all_blank s)

pub blank_all : (r : Bool) (s : List ℕ) (at end : ℕ) → r ≡ list_all (λ b. b == 32) (take (end - at) (drop at s)) → r ≡ blank (columns s at end)
unfolding columns
blank_all r s at end e = e ∙ all_blank (take (end - at) (drop at s))

-- what `==` answers of two slices
pub same_is : (s t : List ℕ) → pointwise nat_eq s t ≡ same_bytes s t
unfolding same_bytes
same_is [] [] = refl
same_is [] (b ∷ t) = refl
same_is (a ∷ s) [] = refl
same_is (a ∷ s) (b ∷ t) = rw (same_is s t)

-- ---- the least and the greatest byte passed: f is the answer

least : (k a b : ℕ) → leb k (min a b) ≡ leb k a && leb k b
least k a b = pick (leb k a) (leb k b) refl refl
  where
    pick : (x y : Bool) → leb k a ≡ x → leb k b ≡ y → leb k (min a b) ≡ x && y
    pick true true e h = le-leb k (min a b) (omega (arith, leb-true k a e, leb-true k b h))
    pick true false e h = lt-leb k (min a b) (omega (arith, leb-false k b h))
    pick false y e h = lt-leb k (min a b) (omega (arith, leb-false k a e))

greatest : (k a b : ℕ) → leb (max a b) k ≡ leb a k && leb b k
greatest k a b = pick (leb a k) (leb b k) refl refl
  where
    pick : (x y : Bool) → leb a k ≡ x → leb b k ≡ y → leb (max a b) k ≡ x && y
    pick true true e h = le-leb (max a b) k (omega (arith, leb-true a k e, leb-true b k h))
    pick true false e h = lt-leb (max a b) k (omega (arith, leb-false b k h))
    pick false y e h = lt-leb (max a b) k (omega (arith, leb-false a k e))

-- both are printable, and what is left is
unfoldable pub between : ℕ → ℕ → Bool → Bool
between low high rest = (leb 32 low && leb high 126) && rest

shuffle : (a b c d p : Bool) → ((a && b) && (c && d)) && p ≡ (a && c) && (b && (d && p))
shuffle true true true d p = refl
shuffle true true false d p = refl
shuffle true false true d p = refl
shuffle true false false d p = refl
shuffle false b c d p = refl

pub span_start : (s : List ℕ) → between 126 32 (printable (drop 0 s)) ≡ printable s
unfolding between
span_start s = refl

module _ (f : Bool) (s : List ℕ) (i low high : ℕ) (inv : between low high (printable (drop i s)) ≡ f) where
  pub span_on : (l h : ℕ) → i < length s → l ≡ min low (get_or s i 0) → h ≡ max high (get_or s i 0) → between l h (printable (drop (i + 1) s)) ≡ f
  unfolding between printable
  span_on l h lt p q =
      rw (p, q, least, greatest, add-one) (shuffle (leb 32 low) (leb 32 (get_or s i 0)) (leb high 126) (leb (get_or s i 0) 126) (printable (drop (suc i) s)) ∙ (rw (drop-cons s i 0 lt) at inv))

  pub span_low : low < 32 → false ≡ f
  unfolding between
  span_low h = rw (lt-leb 32 low h) at inv

  pub span_end : 32 ≤ low → length s ≤ i → leb high 126 ≡ f
  unfolding between printable
  span_end h k = sym (and_true (leb high 126)) ∙ (rw (le-leb 32 low h, drop_all i s k) at inv)

-- ---- the same: true exactly where the two are equal

pub same_eq : (s t : List ℕ) → same_bytes s t ≡ true → s ≡ t
unfolding same_bytes
same_eq [] [] e = refl
same_eq [] (b ∷ t) e = let z : ◌≡◌ {A = ℕ} 0 1 = cc in absurd (omega arith)
same_eq (a ∷ s) [] e = let z : ◌≡◌ {A = ℕ} 0 1 = cc in absurd (omega arith)
same_eq (a ∷ s) (b ∷ t) e =
    let p : a ≡ b = eqb-true a b (both_left (eqb a b) (same_bytes s t) e) in
    let q : s ≡ t = same_eq s t (both_right (eqb a b) (same_bytes s t) e) in
    cc

pub same_self : (s : List ℕ) → same_bytes s s ≡ true
unfolding same_bytes
same_self [] = refl
same_self (a ∷ s) = rw (eq-eqb a a refl) (same_self s)

pub same_length : (s t : List ℕ) → (length s ≡ length t → ⊥) → false ≡ same_bytes s t
same_length s t h = pick (same_bytes s t) refl
  where
    pick : (b : Bool) → same_bytes s t ≡ b → false ≡ b
    pick true e = absurd (h (ap length (same_eq s t e)))
    pick false e = refl

pub ruleset spans = (sliced, span_start, span_on, span_low, span_end)

-- ---- blanks

pub blank-replicate : (n : ℕ) → blank (replicate n 32) ≡ true
unfolding blank
blank-replicate zero = refl
blank-replicate (suc n) = blank-replicate n

-- ---- printable bytes

pub print_append : (s t : List ℕ) → printable (s ++ t) ≡ printable s && printable t
unfolding printable
print_append [] t = refl
print_append (b ∷ s) t =
    rw (print_append s t, and_assoc (leb 32 b) (leb b 126 && printable s) (printable t), and_assoc (leb b 126) (printable s) (printable t))

pub print_both : (s t : List ℕ) → printable s ≡ true → printable t ≡ true → printable (s ++ t) ≡ true
print_both s t p q = print_append s t ∙ both_true p q

-- and of a printable text both parts are, so each run of its columns is
print_parts : (n : ℕ) (t : List ℕ) → printable t ≡ true → (printable (take n t) ≡ true) × (printable (drop n t) ≡ true)
print_parts n t h = both (printable (take n t)) (printable (drop n t)) (sym (print_append (take n t) (drop n t)) ∙ ap printable (take-append-drop n t) ∙ h)

pub print_take : (n : ℕ) (t : List ℕ) → printable t ≡ true → printable (take n t) ≡ true
print_take n t h = (print_parts n t h).0

pub print_drop : (n : ℕ) (t : List ℕ) → printable t ≡ true → printable (drop n t) ≡ true
print_drop n t h = (print_parts n t h).1

pub print_columns : (t : List ℕ) (a b : ℕ) → printable t ≡ true → printable (columns t a b) ≡ true
unfolding columns
print_columns t a b h = print_take (b - a) (drop a t) (print_drop a t h)

pub print_cons : (b : ℕ) (s : List ℕ) → 32 ≤ b → b ≤ 126 → printable s ≡ true → printable (b ∷ s) ≡ true
unfolding printable
print_cons b s lo hi e = simp (printable, le-leb _ _ lo, le-leb _ _ hi) e

pub print_replicate : (n b : ℕ) → 32 ≤ b → b ≤ 126 → printable (replicate n b) ≡ true
unfolding printable
print_replicate zero b lo hi = refl
print_replicate (suc n) b lo hi = print_cons b (replicate n b) lo hi (print_replicate n b lo hi)
