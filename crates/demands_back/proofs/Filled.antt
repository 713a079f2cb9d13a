-- The Global fields from number 3 on, defaults where none is given: a record can hold them, each fits its number, and those given are given back.
-- Assumes nothing.
use mathlib.Core.Path.{◌≡◌, refl, ap, ◌∙◌}
use mathlib.Core.Bool.{true, false}
use mathlib.Core.List.{List, [], ◌∷◌, ◌++◌}
use Prim.Native.Nat.{ℕ, zero, suc, ◌+◌, ◌-◌, ◌≤◌, ◌<◌}
use native.Mathlib.Nat.{add-zero}
use native.Mathlib.Omega.{arith}
use lib.ListN.{length, get_or, replicate, length-append}
use borrow.Author.Tests.{le-leb}
use Rattle.columns.specs.First.{first_not}
use Rattle.columns.proofs.First.{all_pass}
use Rattle.columns.proofs.Tests.{both_true}
use Rattle.values.specs.declared.Value.TheVariants.{Default}
use Rattle.values.specs.Value.{Item, default, seen, is_default, fine_default}
use Rattle.records.specs.declared.GlobalKind.{GlobalKind}
use Rattle.records.specs.declared.GlobalKind.TheVariants.{String, Real as RealKind, Integer}
use Rattle.records.specs.Global.{first_field, last_field, kind_of, is_kind, global_fits}
use Rattle.sheets.specs.WellFormed.{Rising, no_more, higher, Each, none, one, Held, Filled}
use Rattle.model.specs.Canonical.{filled}
use Rattle.model.specs.Fit.{InKind}
use Rattle.model.specs.Read.{field_fits, given}

-- ---- they can be held

defaults_held : (n : ℕ) {vs : List Item} → Each Held vs → Each Held (replicate n default ++ vs)
defaults_held zero h = h
defaults_held (suc n) h = one (record { fine = fine_default; printed = tt }) (defaults_held n h)

pub filled_held : (n : ℕ) {gs : List (ℕ × Item)} → Each Filled gs → Each Held (filled n gs)
unfolding filled
filled_held n none = none
filled_held n (one {x} {xs} p ps) = defaults_held (x.0 - n) (one p.held (filled_held (suc x.0) ps))

pub filled_some : (n : ℕ) (g : ℕ × Item) (gs : List (ℕ × Item)) → 1 ≤ length (filled n (g ∷ gs))
unfolding filled
filled_some n g gs = rw (length-append (replicate (g.0 - n) default) (g.1 ∷ filled (suc g.0) gs)) (omega arith)

-- ---- they fit their numbers

-- the values from number n on
abbrev FitFrom : ℕ → List Item → Type 0
FitFrom n [] = Unit {0}
FitFrom n (v ∷ vs) = (global_fits n (seen v) ≡ true) × FitFrom (suc n) vs

default_fits : (n : ℕ) → n ≤ last_field → global_fits n Default ≡ true
unfolding global_fits
default_fits n h = both_true (le-leb n last_field h) (kind (kind_of n))
  where
    kind : (k : GlobalKind) → is_kind k n Default ≡ true
    kind String = refl
    kind RealKind = refl
    kind Integer = refl

defaults_fit : (k n : ℕ) (vs : List Item) → n + k ≤ suc last_field → FitFrom (n + k) vs → FitFrom n (replicate k default ++ vs)
defaults_fit zero n vs h f = rw add-zero at f
defaults_fit (suc k) n vs h f =
    let e : suc n + k ≡ n + suc k = omega arith in
    (default_fits n (omega arith), defaults_fit k (suc n) vs (omega arith) (rw e f))

filled_fit : {n : ℕ} {gs : List (ℕ × Item)} → Rising n gs → Each Filled gs → Each InKind gs → FitFrom (suc n) (filled (suc n) gs)
unfolding filled
filled_fit no_more none none = tt
filled_fit {n} (higher {m} {v} {gs} l r) (one p ps) (one k ks) =
    let e : suc n + (m - suc n) ≡ m = omega arith in
    defaults_fit (m - suc n) (suc n) (v ∷ filled (suc m) gs) (omega (arith, p.high)) (rw e (k, filled_fit r ps ks))

fit_at : (vs : List Item) (n k : ℕ) → FitFrom n vs → k < length vs → global_fits (n + k) (seen (get_or vs k default)) ≡ true
fit_at [] n k f h = absurd (omega arith)
fit_at (v ∷ vs) n zero f h = rw add-zero f.0
fit_at (v ∷ vs) n (suc k) f h =
    let e : n + suc k ≡ suc n + k = omega arith in
    rw e (fit_at vs (suc n) k f.1 (omega arith))

-- none of them fails
pub fields_fit_lem : {gs : List (ℕ × Item)} → Rising 2 gs → Each Filled gs → Each InKind gs
    → first_not (field_fits (filled first_field gs)) 0 (length (filled first_field gs)) ≡ length (filled first_field gs)
fields_fit_lem {gs} r p k =
    let vs = filled first_field gs in
    all_pass (field_fits vs) (length vs) 0 (λ j lo hi. fit_at vs first_field j (filled_fit r p k) (omega arith)) ∙ omega arith

-- ---- those given are given back

given_defaults : (k n : ℕ) (vs : List Item) → given n (replicate k default ++ vs) ≡ given (n + k) vs
unfolding given
given_defaults zero n vs = rw add-zero
given_defaults (suc k) n vs =
    let e : suc n + k ≡ n + suc k = omega arith in
    given_defaults k (suc n) vs ∙ ap (λ (j : ℕ). given j vs) e

given-one : (n : ℕ) (v : Item) (vs : List Item) → is_default v ≡ false → given n (v ∷ vs) ≡ (n, v) ∷ given (suc n) vs
unfolding given
given-one n v vs h = rw h

pub given_back : {n : ℕ} {gs : List (ℕ × Item)} → Rising n gs → Each Filled gs → given (suc n) (filled (suc n) gs) ≡ gs
unfolding filled given
given_back no_more none = refl
given_back {n} (higher {m} {v} {gs} l r) (one p ps) =
    let e : suc n + (m - suc n) ≡ m = omega arith in
    given_defaults (m - suc n) (suc n) (v ∷ filled (suc m) gs) ∙ ap (λ (j : ℕ). given j (v ∷ filled (suc m) gs)) e
    ∙ given-one m v (filled (suc m) gs) p.given ∙ ap (λ (l : List (ℕ × Item)). (m, v) ∷ l) (given_back r ps)
