-- What an entity's verdict says, with no order: of every place, or of some. Assumes nothing.
use mathlib.Core.Path.{◌≡◌, refl, sym, ap, ap₂, ◌∙◌}
use mathlib.Core.Bool.{Bool, true, false, cond, ◌&&◌, false≢true}
use mathlib.Core.Logic.{◌↔◌}
use mathlib.Core.List.{List, [], ◌∷◌, ◌++◌, map}
use Prim.Native.Nat.{ℕ, zero, suc, ◌+◌}
use native.Mathlib.Omega.{arith}
use lib.ListN.{length, drop, replicate}
use lib.Seq.{get_or-drop}
use Rattle.columns.specs.Refusal.{accepted}
use Rattle.values.specs.declared.Value.{Value}
use Rattle.values.specs.declared.Value.TheVariants.{Default}
use Rattle.values.specs.Value.{Item, default, seen}
use Rattle.layouts.specs.declared.LayoutPlace.{LayoutPlace}
use Rattle.std.specs.Prelude.{Ok, Err}
use Rattle.columns.specs.declared.Fault.TheVariants.{Layout, LayoutReference}
use Rattle.layouts.specs.Verdict.{Verdict, OfLayout}
use Rattle.layouts.specs.Layout.{groups}
use Rattle.layouts.specs.Known.{known}
use Rattle.layouts.specs.Fits.{Ask, nothing, suits, refers_well, Counts, none, counted, many, ask, value_at, Asks, close, spelled, places_of, asked, ask_at, Fits, Fails, Refers, Misrefers, Keeps}
use Rattle.layouts.specs.Entities.{Entity, everywhere, verdict, fault, entity_check, reference_places, carried, marks}
use Rattle.layouts.proofs.Tables.{and_both}

-- ---- a test of every place

-- it holds at every place, or fails at one
abbrev Every : (Ask → Value → Bool) → List Ask → List Item → Type 0
Every f ps vs = (i : ℕ) → f (ask_at ps i) (value_at vs i) ≡ true

abbrev Some : (Ask → Value → Bool) → List Ask → List Item → Type 0
Some f ps vs = (i : ℕ) × (f (ask_at ps i) (value_at vs i) ≡ false)

and_true : (a b : Bool) → a ≡ true → b ≡ true → (a && b) ≡ true
and_true a b p q = rw (p, q)

and_either : {A : Type 0} (a b : Bool) → (a && b) ≡ false → (a ≡ false → A) → (b ≡ false → A) → A
and_either true b e p q = q e
and_either false b e p q = p refl

module _ (f : Ask → Value → Bool) (z : f nothing Default ≡ true) where
  every-at : (ps : List Ask) (vs : List Item) → everywhere f ps vs ≡ true → Every f ps vs
  unfolding everywhere
  every-at [] [] e i = z
  every-at [] (v ∷ vs) e zero = (and_both (f nothing (seen v)) (everywhere f [] vs) e).0
  every-at [] (v ∷ vs) e (suc i) = every-at [] vs (and_both (f nothing (seen v)) (everywhere f [] vs) e).1 i
  every-at (a ∷ ps) [] e zero = (and_both (f a Default) (everywhere f ps []) e).0
  every-at (a ∷ ps) [] e (suc i) = every-at ps [] (and_both (f a Default) (everywhere f ps []) e).1 i
  every-at (a ∷ ps) (v ∷ vs) e zero = (and_both (f a (seen v)) (everywhere f ps vs) e).0
  every-at (a ∷ ps) (v ∷ vs) e (suc i) = every-at ps vs (and_both (f a (seen v)) (everywhere f ps vs) e).1 i

  at_every : (ps : List Ask) (vs : List Item) → Every f ps vs → everywhere f ps vs ≡ true
  unfolding everywhere
  at_every [] [] h = refl
  at_every [] (v ∷ vs) h = and_true (f nothing (seen v)) (everywhere f [] vs) (h 0) (at_every [] vs (λ i. h (suc i)))
  at_every (a ∷ ps) [] h = and_true (f a Default) (everywhere f ps []) (h 0) (at_every ps [] (λ i. h (suc i)))
  at_every (a ∷ ps) (v ∷ vs) h = and_true (f a (seen v)) (everywhere f ps vs) (h 0) (at_every ps vs (λ i. h (suc i)))

  some_at_lem : (ps : List Ask) (vs : List Item) → everywhere f ps vs ≡ false → Some f ps vs
  unfolding everywhere
  some_at_lem [] [] e = absurd (false≢true (sym e))
  some_at_lem [] (v ∷ vs) e = and_either (f nothing (seen v)) (everywhere f [] vs) e (λ q. (0, q)) (λ q. let s = some_at_lem [] vs q in (suc s.0, s.1))
  some_at_lem (a ∷ ps) [] e = and_either (f a Default) (everywhere f ps []) e (λ q. (0, q)) (λ q. let s = some_at_lem ps [] q in (suc s.0, s.1))
  some_at_lem (a ∷ ps) (v ∷ vs) e = and_either (f a (seen v)) (everywhere f ps vs) e (λ q. (0, q)) (λ q. let s = some_at_lem ps vs q in (suc s.0, s.1))

  pub everywhere_iff : (ps : List Ask) (vs : List Item) → everywhere f ps vs ≡ true ↔ Every f ps vs
  everywhere_iff ps vs = (every-at ps vs, at_every ps vs)

  pub somewhere_iff : (ps : List Ask) (vs : List Item) → everywhere f ps vs ≡ false ↔ Some f ps vs
  somewhere_iff ps vs = (some_at_lem ps vs, λ s. pick (everywhere f ps vs) refl s)
    where
      pick : (b : Bool) → everywhere f ps vs ≡ b → Some f ps vs → b ≡ false
      pick true e s = absurd (false≢true (sym s.1 ∙ every-at ps vs e s.0))
      pick false e s = refl

-- ---- what each verdict says

module _ (types : List ℕ) (e : Entity) where
  pub fits_iff : everywhere suits (asked e) e.values ≡ true ↔ Fits e
  fits_iff = everywhere_iff suits refl (asked e) e.values

  pub refers_iff : everywhere (refers_well types) (asked e) e.values ≡ true ↔ Refers types e
  refers_iff = everywhere_iff (refers_well types) refl (asked e) e.values

  -- by whether all values suit and all references are good
  abbrev told : Bool → Bool → Verdict
  told suit refer = cond suit (cond refer (Ok tt) (Err LayoutReference)) (Err Layout)

  told_good : (a b : Bool) → told a b ≡ Ok tt → (a ≡ true) × (b ≡ true)
  told_good true true q = (refl, refl)
  told_good true false q = let z : ◌≡◌ {A = ℕ} 0 1 = cc in absurd (omega arith)
  told_good false b q = let z : ◌≡◌ {A = ℕ} 0 1 = cc in absurd (omega arith)

  told_layout : (a b : Bool) → told a b ≡ Err Layout → a ≡ false
  told_layout true true q = let z : ◌≡◌ {A = ℕ} 0 1 = cc in absurd (omega arith)
  told_layout true false q = let z : ◌≡◌ {A = ℕ} 0 1 = cc in absurd (omega arith)
  told_layout false b q = refl

  told_reference : (a b : Bool) → told a b ≡ Err LayoutReference → (a ≡ true) × (b ≡ false)
  told_reference true true q = let z : ◌≡◌ {A = ℕ} 0 1 = cc in absurd (omega arith)
  told_reference true false q = (refl, refl)
  told_reference false b q = let z : ◌≡◌ {A = ℕ} 0 1 = cc in absurd (omega arith)

  abbrev all_suit : Bool
  all_suit = everywhere suits (asked e) e.values

  abbrev all_refer : Bool
  all_refer = everywhere (refers_well types) (asked e) e.values

  told_of_layout : (a b : Bool) → OfLayout (told a b)
  told_of_layout true true = tt
  told_of_layout true false = (omega arith, omega arith)
  told_of_layout false b = (omega arith, omega arith)

  -- no refusal but 14 and 15
  pub of_layout : OfLayout (verdict types e)
  unfolding verdict
  of_layout = told_of_layout all_suit all_refer

  -- accepted exactly if the values fit the row and every reference is good
  pub good_iff : verdict types e ≡ Ok tt ↔ (Fits e × Refers types e)
  unfolding verdict
  good_iff = (λ q. let s = told_good all_suit all_refer q in (fits_iff.0 s.0, refers_iff.0 s.1), λ h. rw (fits_iff.1 h.0, refers_iff.1 h.1))

  -- 14 exactly if some place fails in kind, count or range, or a value too many stands behind
  pub layout_iff : verdict types e ≡ Err Layout ↔ Fails e
  unfolding verdict
  layout_iff = let s = somewhere_iff suits refl (asked e) e.values in (λ q. s.0 (told_layout all_suit all_refer q), λ h. rw (s.1 h))

  -- 15 exactly if all fits but some reference
  pub reference_iff : verdict types e ≡ Err LayoutReference ↔ (Fits e × Misrefers types e)
  unfolding verdict
  reference_iff =
      let s = somewhere_iff (refers_well types) refl (asked e) e.values in
      (λ q. let t = told_reference all_suit all_refer q in (fits_iff.0 t.0, s.0 t.1), λ h. rw (fits_iff.1 h.0, s.1 h.1))

  -- ---- under a list

  module _ (list place : ℕ) where
    -- an entity that keeps to its layout, if the list knows it, is accepted
    pub keeps_accepts : (known list e.typ e.form ≡ true → Keeps types e) → entity_check list types e place ≡ accepted tt
    unfolding entity_check
    keeps_accepts h = by (known list e.typ e.form) h
      where
        by : (k : Bool) → (k ≡ true → Keeps types e) → cond k (fault (verdict types e) place) (accepted tt) ≡ accepted tt
        by true h = let k = h refl in rw (good_iff.1 (k.fits, k.refers))
        by false h = refl

    fault_good : (w : Verdict) (u : Unit {0}) → fault w place ≡ accepted u → w ≡ Ok tt
    fault_good (Ok a) u h = refl
    fault_good (Err n) u h = let z : ◌≡◌ {A = ℕ} 0 1 = cc in absurd (omega arith)

    -- and what is accepted does
    pub accepts_keeps : (u : Unit {0}) → entity_check list types e place ≡ accepted u → known list e.typ e.form ≡ true → Keeps types e
    unfolding entity_check
    accepts_keeps u h k = let g = good_iff.0 (fault_good (verdict types e) u (rw k at h)) in record { fits = g.0; refers = g.1 }

-- ---- values that are the same but for defaults at the end

abbrev pub Same : List Item → List Item → Type 0
Same vs ws = (i : ℕ) → value_at vs i ≡ value_at ws i

same_drop : (n : ℕ) (vs ws : List Item) → Same vs ws → Same (drop n vs) (drop n ws)
same_drop n vs ws s i = ap seen (get_or-drop n vs i default) ∙ s (n + i) ∙ sym (ap seen (get_or-drop n ws i default))

spelled_same : (ps : List LayoutPlace) (more : Asks) → ((c : Counts) (vs ws : List Item) → Same vs ws → more c vs ≡ more c ws)
    → (c : Counts) (vs ws : List Item) → Same vs ws → spelled ps more c vs ≡ spelled ps more c ws
spelled_same [] more h c vs ws s = h c vs ws s
spelled_same (p ∷ ps) more h c vs ws s =
    let n = many p.times c in
    ap (λ (v : Value). replicate n (ask p.kind c) ++ spelled ps more (counted p.kind v c) (drop n vs)) (s 0)
    ∙ ap (λ (l : List Ask). replicate n (ask p.kind c) ++ l) (spelled_same ps more h (counted p.kind (value_at ws 0) c) (drop n vs) (drop n ws) (same_drop n vs ws s))

module _ (types : List ℕ) (typ form : ℕ) (vs ws : List Item) (s : Same vs ws) where
  abbrev with_values : List Item → Entity
  with_values l = record { typ = typ; form = form; values = l }

  asked_same : asked (with_values vs) ≡ asked (with_values ws)
  unfolding asked
  asked_same = spelled_same (places_of typ form) (spelled groups close) (spelled_same groups close (λ c us ts k. refl)) none vs ws s

  pub keeps_same : Keeps types (with_values vs) → Keeps types (with_values ws)
  keeps_same h =
      record {
        fits = λ i. ap₂ (λ (ps : List Ask) (v : Value). suits (ask_at ps i) v) (sym asked_same) (sym (s i)) ∙ h.fits i;
        refers = λ i. ap₂ (λ (ps : List Ask) (v : Value). refers_well types (ask_at ps i) v) (sym asked_same) (sym (s i)) ∙ h.refers i;
      }

-- ---- marks

places-length : (ps : List Ask) (vs : List Item) → length (reference_places ps vs) ≡ length vs
unfolding reference_places
places-length ps [] = refl
places-length [] (v ∷ vs) = ap suc (places-length [] vs)
places-length (a ∷ ps) (v ∷ vs) = ap suc (places-length ps vs)

carried-length : (vs : List Item) → length (map carried vs) ≡ length vs
carried-length [] = refl
carried-length (v ∷ vs) = ap suc (carried-length vs)

-- one for each value
pub marks-length : (list : ℕ) (e : Entity) → length (marks list e) ≡ length e.values
unfolding marks
marks-length list e = by (known list e.typ e.form)
  where
    by : (b : Bool) → length (cond b (reference_places (asked e) e.values) (map carried e.values)) ≡ length e.values
    by true = places-length (asked e) e.values
    by false = carried-length e.values
