-- The Global fields of a file that is read: their numbers rise, each is given, of its kind and can be spelt.
use mathlib.Core.Path.{◌≡◌, refl}
use mathlib.Core.Bool.{Bool, true, false, cond}
use mathlib.Core.List.{List, [], ◌∷◌}
use Prim.Native.Nat.{ℕ, suc, ◌+◌, ◌≤◌, ◌<◌}
use native.Mathlib.Nat.{add-zero}
use native.Mathlib.Omega.{arith}
use lib.ListN.{length, get_or}
use lib.Dec.{leb}
use borrow.Author.Tests.{leb-true}
use Rattle.columns.specs.Columns.{printable}
use Rattle.columns.proofs.First.{before_first}
use Rattle.columns.proofs.Tests.{both_left}
use Rattle.values.specs.Value.{Item, default, seen, is_default}
use Rattle.cards.specs.declared.Counts.{Counts}
use Rattle.records.specs.Global.{first_field, last_field, kind_of, is_kind, global_fits}
use Rattle.sheets.specs.WellFormed.{Rising, no_more, higher, Each, none, one, Held, Filled}
use Rattle.model.specs.Read.{GlobalRead, given, field_fits}
use Rattle.model.specs.Fit.{InKind}
use Rattle.model.proofs.ReadApart.{GlobalApart, alone, more}
use Rattle.demands.proofs.Values.{values_held}

-- values from field n on, each of its field's kind
abbrev FitFrom : ℕ → List Item → Type 0
FitFrom n vs = (k : ℕ) → k < length vs → global_fits (n + k) (seen (get_or vs k default)) ≡ true

-- the numbers of the given ones rise
rises : (vs : List Item) (n k : ℕ) → n < k → Rising n (given k vs)
unfolding given
rises [] n k h = no_more
rises (v ∷ vs) n k h = pick (is_default v) (rises vs n (suc k) (omega arith)) (rises vs k (suc k) (omega arith))
  where
    pick : (b : Bool) → Rising n (given (suc k) vs) → Rising k (given (suc k) vs) → Rising n (cond b (given (suc k) vs) ((k, v) ∷ given (suc k) vs))
    pick true r s = r
    pick false r s = higher h s

-- a field that is given
abbrev Field : ℕ × Item → Type 0
Field g = Filled g × InKind g

field_fits_lem : (n : ℕ) (v : Item) → first_field ≤ n → is_default v ≡ false → Held v → global_fits n (seen v) ≡ true → Field (n, v)
unfolding global_fits
field_fits_lem n v low g h fits = (
  record { low = low; high = leb-true n last_field (both_left (leb n last_field) (is_kind (kind_of n) n (seen v)) fits); given = g; held = h },
  fits,
)

all_given : (n : ℕ) {vs : List Item} → first_field ≤ n → Each Held vs → FitFrom n vs → Each Field (given n vs)
unfolding given
all_given n low none fits = none
all_given n low (one {x = v} {xs = vs} h hs) fits =
    pick (is_default v) refl (all_given (suc n) (omega arith) hs (λ k l. next k (fits (suc k) (omega arith))))
  where
    next : (k : ℕ) → global_fits (n + suc k) (seen (get_or vs k default)) ≡ true → global_fits (suc n + k) (seen (get_or vs k default)) ≡ true
    next k g =
        let e : n + suc k ≡ suc n + k = omega arith in
        rw e at g

    pick : (b : Bool) → is_default v ≡ b → Each Field (given (suc n) vs) → Each Field (cond b (given (suc n) vs) ((n, v) ∷ given (suc n) vs))
    pick true e r = r
    pick false e r = one (field_fits_lem n v low e h (rw (add-zero n) at (fits 0 (omega arith)))) r

-- ---- of a file

pub record GlobalsFit (gs : List (ℕ × Item)) : Type 0 where
  pub rising : Rising 2 gs
  pub each : Each Field gs

pub globals_fit : (c : Counts) (t : List ℕ) (g : GlobalRead) → printable t ≡ true → GlobalApart c t g → GlobalsFit g.fields
globals_fit c t g h (alone p d next eo s e) = rw e (record { rising = no_more; each = none })
globals_fit c t g h (more p d next vs end eo ev s fit e) =
    rw e (record {
      rising = rises vs 2 first_field (omega arith);
      each = all_given first_field (omega arith) (values_held 72 p d t h next ev) (λ k l. before_first (field_fits vs) (length vs) 0 k (omega arith) (omega arith));
    })
