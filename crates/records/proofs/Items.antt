-- The values of a record are met one after the other. Assumes nothing.
use mathlib.Core.Path.{◌≡◌, refl, ap}
use mathlib.Core.Bool.{Bool, true, false}
use mathlib.Core.List.{List, [], ◌∷◌}
use Prim.Native.Nat.{ℕ, zero, suc, ◌≤◌}
use native.Mathlib.Omega.{arith}
use lib.ListN.{length, take}
use Rattle.std.specs.Prelude.{Ok, Err}
use Rattle.values.specs.declared.Value.{Value}
use Rattle.values.specs.Value.{Item, item_of, is_default}
use Rattle.records.specs.Record.{Got, found_at, Values, values, wrong, more, after, value_at, values_from, values_at, behind, trim, trimmed}
use Rattle.records.specs.Items.{got_item, items_from}

-- what is read of a record that is accepted
data Ended (t : List ℕ) (rest : ℕ → Values) (vs : List Item) (end : ℕ) : Got → Type 0 where
  at_last : (v : Value) (s : ℕ) → vs ≡ item_of t v ∷ [] → Ended t rest vs end (found_at v s end true)
  going_on : (v : Value) (s next : ℕ) (us : List Item) → rest next ≡ values us end → vs ≡ item_of t v ∷ us → Ended t rest vs end (found_at v s next false)

ended : (t : List ℕ) (rest : ℕ → Values) (vs : List Item) (end : ℕ) (g : Got) → after t rest g ≡ values vs end → Ended t rest vs end g
ended t rest vs end (Ok x) h = read x.value x.start x.next x.last h
  where
    read : (v : Value) (s next : ℕ) (last : Bool) → after t rest (found_at v s next last) ≡ values vs end → Ended t rest vs end (found_at v s next last)
    read v s next true h = let e : next ≡ end = cc in rw (← e) (at_last v s (cc))
    read v s next false h = by (rest next) refl h
      where
        by : (r : Values) → rest next ≡ r → more (item_of t v) r ≡ values vs end → Ended t rest vs end (found_at v s next false)
        by (values us to) e k = going_on v s next us (cc) (cc)
        by (wrong n a b) e k = let z : ◌≡◌ {A = ℕ} 0 1 = cc in absurd (omega arith)
ended t rest vs end (Err x) h = let z : ◌≡◌ {A = ℕ} 0 1 = cc in absurd (omega arith)

module _ (w c d : ℕ) (t : List ℕ) where
  -- a value and what comes after it
  step : (rest : ℕ → Values) (p : ℕ) (vs : List Item) (end n : ℕ) → Ended t rest vs end (value_at w c d t p)
      → ((q : ℕ) (us : List Item) (to m : ℕ) → rest q ≡ values us to → m ≤ length us → take m us ≡ items_from w c d t q m)
      → n ≤ length vs → take n vs ≡ items_from w c d t p n
  unfolding items_from
  step rest p vs end zero x again k = refl
  step rest p vs end (suc n) x again k = by (value_at w c d t p) x
    where
      by : (g : Got) → Ended t rest vs end g → take (suc n) vs ≡ got_item t g ∷ items_from w c d t (behind g) n
      by g (at_last v s e) =
          let l : length vs ≡ 1 = ap length e in
          let z : n ≡ 0 = omega arith in
          rw (e, z)
      by g (going_on v s next us r e) =
          let l : length vs ≡ suc (length us) = ap length e in
          rw (e, again next us end n r (omega arith))

  items_in : (fuel p : ℕ) (vs : List Item) (end n : ℕ) → values_from fuel w c d t p ≡ values vs end → n ≤ length vs → take n vs ≡ items_from w c d t p n
  unfolding values_from
  items_in zero p vs end n h k = let z : ◌≡◌ {A = ℕ} 0 1 = cc in absurd (omega arith)
  items_in (suc fuel) p vs end n h k =
      step (values_from fuel w c d t) p vs end n (ended t (values_from fuel w c d t) vs end (value_at w c d t p) h)
      (λ q us to m. items_in fuel q us to m) k

  -- the first n values of a record
  pub items_are : (p : ℕ) (vs : List Item) (end n : ℕ) → values_at w c d t p ≡ values vs end → n ≤ length vs → take n vs ≡ items_from w c d t p n
  unfolding values_at
  items_are p vs end n h k = items_in (suc (length t)) p vs end n h k

-- a first value that is no default stays
pub trimmed_first : (v : Item) (vs : List Item) → is_default v ≡ false → trimmed (v ∷ vs) ≡ v ∷ trimmed vs
trimmed_first v vs h = by (trimmed vs)
  where
    by : (us : List Item) → trim v us ≡ v ∷ us
    by [] = rw h
    by (u ∷ us) = refl
