-- A line that was found by a guess counts if it shows the number asked for. Assumes nothing.
use mathlib.Core.Path.{◌≡◌, refl, sym, ◌∙◌}
use mathlib.Core.Bool.{Bool, true, false}
use mathlib.Core.List.{List}
use Prim.Native.Nat.{ℕ, ◌+◌, ◌-◌, ◌*◌, ◌/◌, ◌^◌, ◌≤◌, ◌<◌}
use native.Mathlib.Omega.{arith}
use native.Mathlib.Nat.{mul-le-mul_left, mul-le-mul_right, div-mul-le_self}
use lib.ListN.{length, get_or}
use lib.Dec.{eqb}
use borrow.Author.Tests.{eq-eqb, ne_eqb, le-leb, lt-leb}
use Rattle.columns.specs.Columns.{columns}
use Rattle.references.specs.References.{class_of}
use Rattle.sheets.specs.Line.{run}
use Rattle.columns.specs.Format.{most_integer}
use Rattle.sheets.specs.Folds.{unread, size_from}
use Rattle.write_lines.specs.Classes.{Tabled}
use Rattle.write_lines.specs.Shown.{begins_entry, EntryAt, plain_at, plain_class, Shown}
use Rattle.write_lines.proofs.Numbered.{class_shown}

-- ---- places are within the sheet

pub part-within : (q n : ℕ) → q < 16665 → q * (n / 16665 + 1) ≤ 16664 * (n / 16665 + 1)
part-within q n h =
    let few : q ≤ 16664 = omega arith in
    mul-le-mul_right (n / 16665 + 1) few

-- so many of all have no more than all
module _ (bytes all some : ℕ) (few : some < all) where
  share_within : 256 * bytes / all * some ≤ 256 * bytes
  share_within =
      let most_integer : 256 * bytes / all * some ≤ 256 * bytes / all * all = mul-le-mul_left (256 * bytes / all) (omega arith) in
      omega (arith, most_integer, div-mul-le_self (256 * bytes) all)

  pub share_fits : 256 * bytes < 2 ^ 64 → 256 * bytes / all * some < 2 ^ 64
  share_fits h = omega (arith, share_within)

  pub share_less : 256 * bytes / all * some / 256 ≤ bytes
  share_less = omega (arith, share_within)

pub ruleset shares = (share_fits, share_less)

-- ---- an entry's line

module _ (before b : ℕ) where
  pub begins-known : b ≡ 69 → eqb before 10 ≡ begins_entry before b
  unfolding begins_entry
  begins-known h = simp (eq-eqb _ _ h)

  pub begins_unknown : (b ≡ 69 → ⊥) → b ≡ 85 → eqb before 10 ≡ begins_entry before b
  unfolding begins_entry
  begins_unknown h k = simp (ne_eqb _ _ h, eq-eqb _ _ k)

  pub begins-none : (b ≡ 69 → ⊥) → (b ≡ 85 → ⊥) → false ≡ begins_entry before b
  unfolding begins_entry
  begins-none h k = simp (ne_eqb _ _ h, ne_eqb _ _ k)

pub ruleset begins = (begins-known, begins_unknown, begins-none)

pub line-none : (t : List ℕ) (number : ℕ) → Shown t number 0
line-none t number = record { so = λ h. absurd (h refl) }

-- the type, as it was read
module _ (t : List ℕ) (at end y : ℕ) (ee : end ≡ at + run 9 (columns t at (length t))) (ey : y ≡ size_from unread (columns t at end)) where
  pub type_plain : y ≤ most_integer → (r : ℕ) → r ≡ class_of y → r ≡ plain_class (plain_at t at)
  unfolding plain_at plain_class
  type_plain h r er = rw (← ee, ← ey, le-leb y most_integer h) er

  pub type_not : most_integer < y → 0 ≡ plain_class (plain_at t at)
  unfolding plain_at plain_class
  type_not h = rw (← ee, ← ey, lt-leb y most_integer h)

pub entry_at : (classes : List ℕ) (n : ℕ) (t : List ℕ) (at : ℕ) → Tabled classes n t → 1 ≤ at → 2 ≤ length t - at → (b : Bool) → b ≡ begins_entry (get_or t (at - 1) 0) (get_or t at 0) → b ≡ true → EntryAt t at
entry_at classes n t at made some two b eb tr = record { entries = n; good = made.good; some = some; two = omega arith; begins = sym eb ∙ tr }

pub line-shown : (t : List ℕ) (at tab m number r : ℕ) → EntryAt t at → r ≡ plain_class (plain_at t (tab + 1)) → tab ≡ at + 2 + run 9 (columns t (at + 2) (length t)) → m ≡ size_from unread (columns t (at + 2) tab)
    → m ≡ number → Shown t number r
line-shown t at tab m number r e er et em so = record { so = λ h. class_shown t at e tab m r et em er h ∙ rw so }

pub ruleset shows = (line-none, type_plain, type_not, entry_at, line-shown)
