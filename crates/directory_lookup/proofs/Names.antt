-- The types of the entries one by one, and what a number names.
use mathlib.Core.Path.{◌≡◌, refl, sym, ap, ◌∙◌}
use mathlib.Core.List.{List, map}
use Prim.Native.Nat.{ℕ, zero, suc, ◌+◌, ◌*◌, ◌/◌, ◌%◌, ◌≤◌, ◌<◌}
use native.Mathlib.Nat.{zero-add, add-zero}
use native.Mathlib.Omega.{arith}
use lib.ListN.{length, get_or}
use Rattle.columns.specs.First.{up_from}
use Rattle.columns.specs.Fixed.{signed_of}
use Rattle.references.specs.References.{class_of, class_at}
use Rattle.references.proofs.Classes.{class_at_lem, class_even, class_past}
use Rattle.directory.specs.Fields.{type_at}
use Rattle.directory.specs.Lines.{number, slot_in, size_of}
use Rattle.directory.specs.Naming.{type_on, type_of_entry, types_at}

mapped_length : (g : ℕ → ℕ) (n i : ℕ) → length (map g (up_from i n)) ≡ n
unfolding up_from
mapped_length g zero i = refl
mapped_length g (suc n) i = ap suc (mapped_length g n (i + 1))

mapped_at : (g : ℕ → ℕ) (n i j : ℕ) → j < n → get_or (map g (up_from i n)) j 0 ≡ g (i + j)
unfolding up_from
mapped_at g zero i j h = absurd (omega arith)
mapped_at g (suc n) i zero h = ap g (sym (add-zero i))
mapped_at g (suc n) i (suc j) h =
    let e : i + 1 + j ≡ i + suc j = omega arith in
    mapped_at g n (i + 1) j (omega arith) ∙ ap g e

module _ (f : List ℕ) (first n : ℕ) where
  pub types-length : length (types_at f first n) ≡ n
  unfolding types_at
  types-length = mapped_length (type_of_entry f first) n 0

  pub types-at : (i : ℕ) → i < n → get_or (types_at f first n) i 0 ≡ type_on f (first + 2 * i)
  unfolding types_at
  types-at i h = mapped_at (type_of_entry f first) n 0 i h ∙ ap (type_of_entry f first) (zero-add i)

  -- ---- a directory number

  module _ (m : ℕ) where
    pub names_even : (m % 2 ≡ 1 → ⊥) → 0 ≡ class_at (types_at f first n) m
    names_even h = class_even (types_at f first n) m h

    pub names-past : n ≤ m / 2 → 0 ≡ class_at (types_at f first n) m
    names-past h = class_past (types_at f first n) m (rw types-length h)

    pub names-entry : {r t : ℕ} → m % 2 ≡ 1 → m / 2 < n → r ≡ class_of t → t ≡ size_of (signed_of (slot_in f (first + 2 * (m / 2)) (number type_at)))
        → r ≡ class_at (types_at f first n) m
    unfolding type_on
    names-entry {r} {t} odd h er et =
        er ∙ ap class_of (et ∙ sym (types-at (m / 2) h)) ∙ class_at_lem (types_at f first n) m odd (rw types-length h)

pub ruleset names = (names_even, names-past, names-entry)
