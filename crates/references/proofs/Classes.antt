-- Classes of entries, type by type, and what a place wants of them.
use mathlib.Core.Path.{◌≡◌, refl}
use mathlib.Core.Bool.{Bool, true, false, cond, ◌&&◌}
use mathlib.Core.List.{List}
use Prim.Native.Nat.{ℕ, ◌/◌, ◌%◌, ◌<◌, ◌≤◌}
use native.Mathlib.Omega.{arith}
use lib.Dec.{leb, ltb, eqb}
use lib.ListN.{length, get_or}
use borrow.Author.Tests.{eq-eqb, ne_eqb, lt-ltb, le-ltb}
use Rattle.references.specs.References.{any, other_entry, entry124, entry314, entry308, entry142, class_of, class_at, fits}

module _ (n : ℕ) where
  pub class_124 : n ≡ 124 → entry124 ≡ class_of n
  unfolding class_of
  class_124 e = rw e

  pub class_314 : n ≡ 314 → entry314 ≡ class_of n
  unfolding class_of
  class_314 e = rw e

  pub class_308 : n ≡ 308 → entry308 ≡ class_of n
  unfolding class_of
  class_308 e = rw e

  pub class_142 : n ≡ 142 → entry142 ≡ class_of n
  unfolding class_of
  class_142 e = rw e

  pub class_other : (n ≡ 124 → ⊥) → (n ≡ 314 → ⊥) → (n ≡ 308 → ⊥) → (n ≡ 142 → ⊥) → other_entry ≡ class_of n
  unfolding class_of
  class_other h k l m = simp (ne_eqb _ _ h, ne_eqb _ _ k, ne_eqb _ _ l, ne_eqb _ _ m)

-- what wants nothing of the type takes any entry
pub fits-any : (want class : ℕ) → want ≡ any → leb other_entry class ≡ fits want class
fits-any want class e = rw e

pub fits_class : (want class : ℕ) → (want ≡ any → ⊥) → eqb class want ≡ fits want class
fits_class want class h = simp (ne_eqb _ _ h)

pub ruleset classes = (class_124, class_314, class_308, class_142, class_other, fits-any, fits_class)

cond_in : (b : Bool) (low high m n : ℕ) → (low ≤ m) × (m ≤ high) → (low ≤ n) × (n ≤ high) → (low ≤ cond b m n) × (cond b m n ≤ high)
cond_in true low high m n h k = h
cond_in false low high m n h k = k

-- a class is a small number
pub class_range : (t : ℕ) → (1 ≤ class_of t) × (class_of t ≤ 5)
unfolding class_of
class_range t =
    cond_in (eqb t 124) 1 5 2 _ (omega arith, omega arith) (cond_in (eqb t 314) 1 5 3 _ (omega arith, omega arith)
    (cond_in (eqb t 308) 1 5 4 _ (omega arith, omega arith) (cond_in (eqb t 142) 1 5 5 1 (omega arith, omega arith) (omega arith, omega arith))))

module _ (types : List ℕ) (n : ℕ) where
  pub class_at_lem : n % 2 ≡ 1 → n / 2 < length types → class_of (get_or types (n / 2) 0) ≡ class_at types n
  unfolding class_at
  class_at_lem h k = simp (eq-eqb (n % 2) 1 h, lt-ltb (n / 2) (length types) k)

  pub class_even : (n % 2 ≡ 1 → ⊥) → 0 ≡ class_at types n
  unfolding class_at
  class_even h = simp (ne_eqb (n % 2) 1 h)

  pub class_past : length types ≤ n / 2 → 0 ≡ class_at types n
  unfolding class_at
  class_past h = go (eqb (n % 2) 1)
    where
      go : (b : Bool) → 0 ≡ cond (b && ltb (n / 2) (length types)) (class_of (get_or types (n / 2) 0)) 0
      go true = simp (le-ltb (n / 2) (length types) h)
      go false = refl

pub ruleset naming = (class_at_lem, class_even, class_past)
