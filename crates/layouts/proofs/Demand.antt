-- Demand 3: what a larger list changes. Assumes nothing.
use mathlib.Core.Path.{◌≡◌, refl, sym, ap, ◌∙◌}
use mathlib.Core.Bool.{Bool, true, false, cond, ◌&&◌, false≢true}
use mathlib.Core.List.{List, ◌∷◌}
use mathlib.Core.Logic.{◌⊎◌, inl, inr, ⊎_elim}
use Prim.Native.Nat.{ℕ, suc, ◌+◌, ◌-◌, ◌/◌, ◌%◌, ◌^◌, ◌≤◌, ◌<◌}
use native.Mathlib.Nat.{lt_of_le_of_lt, lt_of_lt_of_le, div-eq_of_lt, pow-le-pow_right}
use native.Mathlib.Omega.{arith}
use lib.Dec.{ltb, eqb, lit<}
use lib.ListN.{length}
use borrow.Author.Tests.{ltb-true, ltb-false}
use Rattle.columns.specs.declared.Fault.{Fault}
use Rattle.columns.specs.declared.Fault.TheVariants.{Layout, LayoutReference}
use Rattle.columns.specs.Refusal.{Outcome, accepted, refused, ◌then◌}
use Rattle.columns.specs.Format.{most_list}
use Rattle.columns.proofs.Stops.{Stops, here, later, not_both}
use Rattle.std.specs.Prelude.{Ok, Err}
use Rattle.layouts.specs.Verdict.{Verdict}
use Rattle.layouts.specs.Layout.{paper, bit_of}
use Rattle.layouts.specs.Known.{bit, known, Inside}
use Rattle.layouts.specs.Fits.{suits, refers_well, asked}
use Rattle.layouts.specs.Entities.{Entity, fault, verdict, marks, entity_check, everywhere}
use Rattle.layouts.proofs.Tables.{up_to_at}
use Rattle.layouts.specs.Larger.{Late}

-- of one entity, wherever its refusals stand: both accept, or both refuse alike, or the second alone refuses, with 14 or 15
pub data Added {A B : Type 0} : Outcome A → Outcome B → Type 0 where
  fine : (a : A) (b : B) → Added (accepted a) (accepted b)
  alike : (n : Fault) (q : ℕ) → Added (refused n q) (refused n q)
  added : (a : A) (m : Fault) (q : ℕ) → Late m → Added (accepted a) (refused m q)

-- ---- a larger list knows more

pub knows : (list more t f : ℕ) → Inside list more → known list t f ≡ true → known more t f ≡ true
unfolding known
knows list more t f h e = go (ltb (bit_of t f) (length paper)) e
  where
    go : (b : Bool) → (b && bit (bit_of t f) list) ≡ true → (b && bit (bit_of t f) more) ≡ true
    go true e = h (bit_of t f) e
    go false e = e

-- a list has a bit for each row
pub most_list_lem : most_list ≡ 2 ^ length paper - 1
unfolding paper
most_list_lem = refl

no_bit : (list k : ℕ) → list ≤ most_list → 14 ≤ k → bit k list ≡ false
no_bit list k h l =
    let q : list / 2 ^ k ≡ 0 = div-eq_of_lt (lt_of_le_of_lt h (lt_of_lt_of_le (lit< tt) (pow-le-pow_right {n = 2} (omega arith) l))) in
    ap (λ (x : ℕ). eqb (x % 2) 1) q

-- the list of all types has every list inside it
pub all_types_lem : (list : ℕ) → list ≤ most_list → Inside list most_list
all_types_lem list h k e = go (ltb k 14) refl
  where
    go : (b : Bool) → ltb k 14 ≡ b → bit k most_list ≡ true
    go true l = up_to_at 14 (λ (j : ℕ). bit j most_list) k refl (ltb-true k 14 l)
    go false l = absurd (false≢true (sym (no_bit list k h (ltb-false k 14 l)) ∙ e))

-- either it says the same of a type and form, or it alone knows it
pub either_way : (list more t f : ℕ) → Inside list more → (known more t f ≡ known list t f) ⊎ ((known list t f ≡ false) × (known more t f ≡ true))
either_way list more t f h = go (known list t f) (known more t f) (knows list more t f h)
  where
    go : (a b : Bool) → (a ≡ true → b ≡ true) → (b ≡ a) ⊎ ((a ≡ false) × (b ≡ true))
    go true b k = inl (k refl)
    go false true k = inr (refl, refl)
    go false false k = inl refl

-- ---- first refusal wins, for two passes of which the second may add a 14 or a 15 at an element. No place is compared

-- what goes before both, or is made of what both accept, adds nothing
pub added_then : {A B C : Type 0} (o : Outcome A) (f : A → Outcome B) (g : A → Outcome C) → ((a : A) → Added (f a) (g a)) → Added (o then f) (o then g)
added_then (accepted a) f g k = k a
added_then (refused n q) f g k = alike n q

pub added_after : {A B C D : Type 0} (x : Outcome A) (y : Outcome B) (f : A → C) (g : B → D) → Added x y
    → Added (x then λ (a : A). accepted (f a)) (y then λ (b : B). accepted (g b))
added_after x y f g (fine a b) = fine (f a) (g b)
added_after x y f g (alike n q) = alike n q
added_after x y f g (added a m q l) = added (f a) m q l

-- of one element: what the first refuses the second refuses alike; what the first accepts the second accepts, or refuses with 14 or 15
pub refused_alike : {A B : Type 0} {x : Outcome A} {y : Outcome B} {n : Fault} {q : ℕ} → Added x y → x ≡ refused n q → y ≡ refused n q
refused_alike (fine a b) e = absurd (not_both e)
refused_alike (alike m r) e = (cc)
refused_alike (added a m r l) e = absurd (not_both e)

pub accepted_late : {A B : Type 0} {x : Outcome A} {y : Outcome B} {a : A} → Added x y → x ≡ accepted a
    → ((b : B) × (y ≡ accepted b)) ⊎ ((m : Fault) × (r : ℕ) × Late m × (y ≡ refused m r))
accepted_late (fine a b) e = inl (b, refl)
accepted_late (alike m r) e = absurd (not_both (sym e))
accepted_late (added a m r l) e = inr (m, r, l, refl)

module _ {E A B : Type 0} (takes : E → ℕ) (f : ℕ → E → Outcome A) (g : ℕ → E → Outcome B) (more : (p : ℕ) (e : E) → Added (f p e) (g p e)) where
  -- where the first pass stops, the second stops alike at the same element, or at an earlier one with 14 or 15
  abbrev pub Sooner : ℕ → List E → ℕ → Fault → ℕ → Type 0
  Sooner p es i n q = (Stops takes g p es i n q) ⊎ ((j : ℕ) × (m : Fault) × (r : ℕ) × (j < i) × Late m × Stops takes g p es j m r)

  pub sooner : {p : ℕ} {es : List E} {i : ℕ} {n : Fault} {q : ℕ} → Stops takes f p es i n q → Sooner p es i n q
  sooner (here {p = p} {x = x} k) = inl (here (refused_alike (more p x) k))
  sooner (later {p = p} {x = x} {xs = es} {i = i} {n = n} {q = q} y k s) = one (accepted_late (more p x) k) (sooner s)
    where
      one : ((b : B) × (g p x ≡ accepted b)) ⊎ ((m : Fault) × (r : ℕ) × Late m × (g p x ≡ refused m r)) → Sooner (p + takes x) es i n q → Sooner p (x ∷ es) (suc i) n q
      one (inl (b, h)) (inl t) = inl (later b h t)
      one (inl (b, h)) (inr (j, m, r, u, l, t)) = inr (suc j, m, r, omega arith, l, later b h t)
      one (inr (m, r, l, h)) t = inr (0, m, r, omega arith, l, here h)

-- ---- the last pass under two lists

module _ (types : List ℕ) (list more : ℕ) (inside : Inside list more) where
  -- by whether all values suit and all references are good
  fault_late : (suit refer : Bool) (p : ℕ) → Added (accepted (tt {0})) (fault (cond suit (cond refer (Ok tt) (Err LayoutReference)) (Err Layout)) p)
  fault_late true true p = fine tt tt
  fault_late true false p = added tt LayoutReference p (inr refl)
  fault_late false refer p = added tt Layout p (inl refl)

  fault_alike : (v : Verdict) (p : ℕ) → Added (fault v p) (fault v p)
  fault_alike (Ok a) p = fine tt tt
  fault_alike (Err n) p = alike n p

  -- what a larger list may add at an entity
  pub entity-more : (e : Entity) (p : ℕ) → Added (entity_check list types e p) (entity_check more types e p)
  unfolding entity_check verdict
  entity-more e p = go (known list e.typ e.form) (known more e.typ e.form) (knows list more e.typ e.form inside)
    where
      go : (a b : Bool) → (a ≡ true → b ≡ true) → Added (cond a (fault (verdict types e) p) (accepted tt)) (cond b (fault (verdict types e) p) (accepted tt))
      go true true k = fault_alike (verdict types e) p
      go true false k = absurd (false≢true (k refl))
      go false true k = fault_late (everywhere suits (asked e) e.values) (everywhere (refers_well types) (asked e) e.values) p
      go false false k = fine tt tt

-- (b) the marks of an entity are the same, but where the larger list alone knows it
pub marks_same : (list more : ℕ) → Inside list more → (e : Entity) → ((known more e.typ e.form ≡ known list e.typ e.form) × (marks more e ≡ marks list e))
    ⊎ ((known list e.typ e.form ≡ false) × (known more e.typ e.form ≡ true))
unfolding marks
marks_same list more inside e = ⊎_elim (λ q. inl (q, rw q)) inr (either_way list more e.typ e.form inside)
