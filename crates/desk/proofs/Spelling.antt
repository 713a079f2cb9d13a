-- What a record's text spells is what is read of it. Assumes nothing.
use mathlib.Core.Path.{◌≡◌, refl, ap, ◌∙◌}
use mathlib.Core.Bool.{Bool, true, false, cond, ◌&&◌}
use mathlib.Core.List.{List, [], ◌∷◌}
use Prim.Native.Nat.{ℕ, zero, suc, ◌+◌, ◌-◌, ◌≤◌, ◌<◌}
use native.Mathlib.Omega.{arith}
use lib.ListN.{length, drop, length-drop}
use lib.Dec.{eqb}
use borrow.Author.Tests.{eqb-true, eq-eqb}
use Rattle.columns.specs.declared.Fault.TheVariants.{Spelling}
use Rattle.columns.specs.Columns.{blank}
use Rattle.columns.specs.Refusal.{accepted}
use Rattle.columns.proofs.Outcomes.{demand_accepted, demand_true}
use Rattle.values.specs.declared.Value.{Value}
use Rattle.values.specs.Value.{Item, item_of}
use Rattle.std.specs.Prelude.{Ok, Err}
use Rattle.records.specs.Record.{Got, found_at, Values, values, wrong, more, after, blanks, value_at, values_from, values_at}
use Rattle.records.proofs.Bounds.{sane, next_in}
use Rattle.records.proofs.Steps.{at_last, at_more}
use Rattle.cards.specs.declared.Counts.{Counts}
use Rattle.model.specs.Read.{no_stray, global_line}
use Rattle.desk.specs.Rules.{Spells, closing, parted}

-- ---- values

module _ (w c d : ℕ) (t : List ℕ) where
  spells_in : (fuel p : ℕ) (vs : List Item) (end : ℕ) → values_from fuel w c d t p ≡ values vs end → Spells w c d t p vs end
  unfolding values_from
  spells_in zero p vs end h = let z : ◌≡◌ {A = ℕ} 0 1 = cc in absurd (omega arith)
  spells_in (suc fuel) p vs end h = by (value_at w c d t p) refl h (λ q us to. spells_in fuel q us to)
    where
      by : (g : Got) → value_at w c d t p ≡ g → after t (values_from fuel w c d t) g ≡ values vs end
          → ((q : ℕ) (us : List Item) (to : ℕ) → values_from fuel w c d t q ≡ values us to → Spells w c d t q us to) → Spells w c d t p vs end
      by (Ok g) e h again = at_end g.value g.start g.next g.last e h
        where
          at_end : (v : Value) (s next : ℕ) (last : Bool) → value_at w c d t p ≡ found_at v s next last → after t (values_from fuel w c d t) (found_at v s next last) ≡ values vs end → Spells w c d t p vs end
          at_end v s next true e h =
              let a : item_of t v ∷ [] ≡ vs = cc in
              let b : next ≡ end = cc in
              rw (← a, ← b) (closing e)
          at_end v s next false e h = then (values_from fuel w c d t next) refl h
            where
              then : (r : Values) → values_from fuel w c d t next ≡ r → more (item_of t v) r ≡ values vs end → Spells w c d t p vs end
              then (values us to) k h =
                  let a : item_of t v ∷ us ≡ vs = cc in
                  let b : to ≡ end = cc in
                  rw (← a, ← b) (parted e (again next us to k))
              then (wrong n s at) k h = let z : ◌≡◌ {A = ℕ} 0 1 = cc in absurd (omega arith)
      by (Err g) e h again = let z : ◌≡◌ {A = ℕ} 0 1 = cc in absurd (omega arith)

  -- what is read is spelt
  pub is-spelt : (p : ℕ) (vs : List Item) (end : ℕ) → values_at w c d t p ≡ values vs end → Spells w c d t p vs end
  unfolding values_at
  is-spelt p vs end h = spells_in (suc (length t)) p vs end h

  module _ (pc : 0 < c) (pd : 0 < d) where
    -- what is spelt is read
    pub is_read : {p : ℕ} {vs : List Item} {end : ℕ} → p ≤ length t → Spells w c d t p vs end → values_at w c d t p ≡ values vs end
    is_read {p} h (closing e) = at_last w c d t pc pd p e
    is_read {p} h (parted {v = v} e m) = at_more w c d t pc pd p h e ∙ ap (more (item_of t v)) (is_read (next_in p (length t) e (sane w c d t pc pd p h)) m)

    pub ends_in : {p : ℕ} {vs : List Item} {end : ℕ} → p ≤ length t → Spells w c d t p vs end → end ≤ length t
    ends_in {p} h (closing e) = next_in p (length t) e (sane w c d t pc pd p h)
    ends_in {p} h (parted e m) = ends_in (next_in p (length t) e (sane w c d t pc pd p h)) m

-- ---- stray text

pub all_blank : (xs : List ℕ) → blanks xs ≡ length xs → blank xs ≡ true
unfolding blank
all_blank [] h = refl
all_blank (x ∷ xs) h = by (eqb x 32) refl h (all_blank xs)
  where
    by : (b : Bool) → eqb x 32 ≡ b → cond b (suc (blanks xs)) 0 ≡ suc (length xs) → (blanks xs ≡ length xs → blank xs ≡ true) → (b && blank xs) ≡ true
    by true e k again = again (omega arith)
    by false e k again = absurd (omega arith)

pub blank_all : (xs : List ℕ) → blank xs ≡ true → blanks xs ≡ length xs
unfolding blank
blank_all [] h = refl
blank_all (x ∷ xs) h = by (eqb x 32) refl h (blank_all xs)
  where
    by : (b : Bool) → eqb x 32 ≡ b → (b && blank xs) ≡ true → (blank xs ≡ true → blanks xs ≡ length xs) → cond b (suc (blanks xs)) 0 ≡ suc (length xs)
    by true e k again = ap suc (again k)
    by false e k again = let z : ◌≡◌ {A = ℕ} 0 1 = cc in absurd (omega arith)

module _ (c : Counts) (t : List ℕ) (end : ℕ) where
  pub no_stray_lem : no_stray c t end ≡ accepted tt → blank (drop end t) ≡ true
  unfolding no_stray
  no_stray_lem h =
      let q : end + blanks (drop end t) ≡ length t = eqb-true _ _ (demand_accepted _ Spelling _ h) in
      all_blank (drop end t) (simp length-drop (omega arith))

  pub stray_none : end ≤ length t → blank (drop end t) ≡ true → no_stray c t end ≡ accepted tt
  unfolding no_stray
  stray_none l h =
      let q : blanks (drop end t) ≡ length t - end = blank_all (drop end t) h ∙ length-drop end t in
      demand_true (eqb (end + blanks (drop end t)) (length t)) Spelling (global_line c (end + blanks (drop end t)))
      (eq-eqb (end + blanks (drop end t)) (length t) (omega arith))
