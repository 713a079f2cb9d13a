-- Demand 3, d, by directory entries. The list enters in the last pass alone, and there in one test of an entity. Assumes nothing.
use mathlib.Core.Path.{◌≡◌, refl, sym, ap, ◌∙◌}
use mathlib.Core.List.{List, [], ◌∷◌, map}
use mathlib.Core.Logic.{◌⊎◌, inl, inr}
use Prim.Native.Nat.{ℕ, zero, suc, ◌+◌, ◌*◌, ◌≤◌, ◌<◌}
use native.Mathlib.Omega.{arith}
use lib.ListN.{get_or, take, drop}
use Rattle.columns.specs.declared.Fault.{Fault}
use Rattle.columns.specs.declared.Fault.TheVariants.{FirstValue}
use Rattle.columns.specs.Refusal.{Outcome, accepted, refused, demand, each_at, ◌then◌}
use Rattle.columns.specs.Format.{most_list}
use Rattle.values.specs.Value.{default}
use Rattle.records.specs.Record.{Values, values, wrong, trimmed, values_at}
use Rattle.layouts.specs.Known.{Inside}
use Rattle.layouts.specs.Entities.{Entity}
use Rattle.layouts.specs.Larger.{Late}
use Rattle.layouts.proofs.Demand.{Added, alike, added_then, added_after, sooner, entity-more}
use Rattle.model.specs.Model.{Carried, type_of, entity_of}
use Rattle.model.specs.Read.{Listed, Before, two, is_type, carried, by_parameters, parameters_of, entity_in, first_entry, listed_type, last_pass, model_with, before, reads}
use Rattle.desk.proofs.Lists.{read_list}
use Rattle.desk.specs.Demands.{entity_under, StopsAt, EarlierEntry, LargerRefuses, RefusedAtEntry}
use Rattle.columns.proofs.Stops.{Stops, here, later, Accepts, next, not_both, first_refused, stops_refused, all_accepted}

-- ---- one entity

module _ (small large : ℕ) (inside : Inside small large) where
  parameters_added : (types : List ℕ) (p : ℕ) (e : Listed) (vs : Values) → Added (by_parameters small types p e vs) (by_parameters large types p e vs)
  parameters_added types p e (wrong n start at) = alike _ _
  parameters_added types p e (values vs end) =
      added_then (demand (is_type (type_of e.fields) (get_or vs 0 default)) FirstValue p) _ _
      (λ _. added_after _ _ (λ _. y) (λ _. y) (entity-more types small large inside x p))
    where
      x : Entity
      x = entity_of e.fields (trimmed (drop 1 vs))

      y : Carried
      y = carried e (trimmed (drop 1 vs))

  entity_added : (f : List ℕ) (b : Before) (p : ℕ) (e : Listed) → Added (entity_under small f b p e) (entity_under large f b p e)
  unfolding entity_in
  entity_added f b p e = parameters_added (map listed_type b.listed) p e (values_at 64 b.global.parameter b.global.record_end (parameters_of f b.counts e) 0)

-- ---- an index of the last pass

module _ {A B : Type 0} (f : ℕ → A → Outcome B) where
  to_at : {p : ℕ} {xs : List A} {i : ℕ} {n : Fault} {q : ℕ} → Stops two f p xs i n q → StopsAt f p xs i n q
  unfolding each_at
  to_at (here {p = p} {x = x} {xs = xs} {n = n} {q = q} e) =
      let k : p + 2 * 0 ≡ p = omega arith in
      record { passed = []; pass = refl; entry = x; others = xs; stands = refl; stops = rw k e }
  to_at (later {p = p} {i = i} y e s) =
      let r = to_at s in
      let k : p + 2 * suc i ≡ p + 2 + 2 * i = omega arith in
      record { passed = y ∷ r.passed; pass = rw (e, r.pass); entry = r.entry; others = r.others; stands = r.stands; stops = rw k r.stops }

  of_at : (p : ℕ) (xs : List A) (i : ℕ) (n : Fault) (q : ℕ) (ys : List B) (x : A) (zs : List A)
      → Accepts two f p (take i xs) ys → drop i xs ≡ x ∷ zs → f (p + 2 * i) x ≡ refused n q → Stops two f p xs i n q
  of_at p [] zero n q ys x zs e d h = let z : ◌≡◌ {A = ℕ} 0 1 = cc in absurd (omega arith)
  of_at p [] (suc i) n q ys x zs e d h = let z : ◌≡◌ {A = ℕ} 0 1 = cc in absurd (omega arith)
  of_at p (w ∷ xs) zero n q ys x zs e d h =
      let k : p + 2 * 0 ≡ p = omega arith in
      let g : f p x ≡ refused n q = rw k at h in
      let c : w ≡ x = cc in
      here (ap (f p) c ∙ g)
  of_at p (w ∷ xs) (suc i) n q [] x zs e d h = elim e [ ]
  of_at p (w ∷ xs) (suc i) n q (y ∷ ys) x zs (next e s) d h =
      let k : p + 2 * suc i ≡ p + 2 + 2 * i = omega arith in
      later y e (of_at (p + 2) xs i n q ys x zs s d (rw k at h))

-- ---- the whole of reading

-- what is made of an accepted one refuses nothing
then_refused : {A B : Type 0} (o : Outcome A) (g : A → B) (n : Fault) (p : ℕ) → (o then λ a. accepted (g a)) ≡ refused n p → o ≡ refused n p
then_refused (accepted a) g n p h = absurd (not_both h)
then_refused (refused m q) g n p h = (cc)

reads_before : (list : ℕ) (f : List ℕ) (n : Fault) (p : ℕ) → list ≤ most_list → before f ≡ refused n p → reads list f ≡ refused n p
unfolding reads
reads_before list f n p h e = rw (read_list list f h, e)

-- the last pass, as it goes from entry to entry
abbrev Turns : ℕ → List ℕ → Before → ℕ → Fault → ℕ → Type 0
Turns list f b i n p = Stops two (entity_under list f b) (first_entry b.counts) b.listed i n p

reads_turns : (list : ℕ) (f : List ℕ) (b : Before) → list ≤ most_list → before f ≡ accepted b → (n : Fault) (p : ℕ)
    → reads list f ≡ refused n p → (i : ℕ) × Turns list f b i n p
unfolding reads last_pass
reads_turns list f b h e n p r =
    first_refused two (entity_under list f b) (first_entry b.counts) b.listed n p
    (then_refused (last_pass list f b.counts b.global b.listed) (model_with f b.counts b.global) n p
    (then_refused (last_pass list f b.counts b.global b.listed then λ es. accepted (model_with f b.counts b.global es)) _ n p
    (rw (read_list list f h, e) at r)))

turns_reads : (list : ℕ) (f : List ℕ) (b : Before) → list ≤ most_list → before f ≡ accepted b → (n : Fault) (p i : ℕ)
    → Turns list f b i n p → reads list f ≡ refused n p
unfolding reads last_pass
turns_reads list f b h e n p i s = rw (read_list list f h, e, stops_refused two (entity_under list f b) s)

pub refused_at_entry : RefusedAtEntry
refused_at_entry list f b h e n p = (
  λ r. let t = reads_turns list f b h e n p r in (t.0, to_at _ t.1),
  λ i s. turns_reads list f b h e n p i (of_at _ _ _ i n p s.passed s.entry s.others (all_accepted two _ _ _ s.passed s.pass) s.stands s.stops),
)

-- d
pub larger_refuses : LargerRefuses
larger_refuses small large o f n p h = by (before f) refl
  where
    by : (x : Outcome Before) → before f ≡ x
        → (reads large f ≡ refused n p) ⊎ ((m : Fault) × (q : ℕ) × (reads large f ≡ refused m q) × Late m × EarlierEntry small large f n p m q)
    by (refused m q) e = inl (reads_before large f m q o.large_list e ∙ (sym (reads_before small f m q o.small_list e) ∙ h))
    by (accepted b) e = last (sooner two (entity_under small f b) (entity_under large f b) (entity_added small large o.inside f b) t.1)
      where
        t : (i : ℕ) × Turns small f b i n p
        t = reads_turns small f b o.small_list e n p h

        last : Turns large f b t.0 n p ⊎ ((j : ℕ) × (m : Fault) × (r : ℕ) × (j < t.0) × Late m × Turns large f b j m r)
            → (reads large f ≡ refused n p) ⊎ ((m : Fault) × (q : ℕ) × (reads large f ≡ refused m q) × Late m × EarlierEntry small large f n p m q)
        last (inl s) = inl (turns_reads large f b o.large_list e n p t.0 s)
        last (inr (j, m, r, u, l, s)) =
            inr (
              m,
              r,
              turns_reads large f b o.large_list e m r j s,
              l,
              record { reached = b; before_last = e; i = t.0; j = j; earlier = u; smaller = to_at _ t.1; larger = to_at _ s },
            )
