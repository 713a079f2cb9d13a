-- The pass over one entity is the last pass at its entry: what it accepts is carried, what it refuses has the entry's place. Assumes nothing.
use mathlib.Core.Path.{◌≡◌, refl, sym, ap, ◌∙◌}
use mathlib.Core.Bool.{Bool, true, false, cond}
use mathlib.Core.List.{List, map}
use Prim.Native.Nat.{ℕ}
use native.Mathlib.Omega.{arith}
use lib.ListN.{get_or, drop}
use Rattle.columns.specs.declared.Fault.{Fault}
use Rattle.columns.specs.declared.Fault.TheVariants.{FirstValue}
use Rattle.columns.specs.Refusal.{Outcome, accepted, refused, demand, ◌then◌}
use Rattle.columns.proofs.Stops.{each_is}
use Rattle.values.specs.Value.{default}
use Rattle.records.specs.Record.{Values, values, wrong, values_at, trimmed}
use Rattle.cards.specs.declared.Counts.{Counts}
use Rattle.std.specs.Prelude.{Ok, Err}
use Rattle.layouts.specs.Verdict.{Verdict}
use Rattle.layouts.specs.Known.{known}
use Rattle.layouts.specs.Entities.{Entity, verdict, fault, entity_check}
use Rattle.layouts.specs.Fits.{Keeps}
use Rattle.layouts.proofs.Fits.{accepts_keeps}
use Rattle.model.specs.Model.{Carried, type_of, entity_of}
use Rattle.model.specs.Read.{GlobalRead, Listed, is_type, by_parameters, carried, parameters_of, entity_in, two, listed_type, first_entry, last_pass}
use Rattle.model.proofs.ReadApart.{entity_apart}
use Rattle.read_entities.specs.Answers.{EntityAnswer, entity_answer, entity_pass_of}
use Rattle.read_entities.specs.Marks.{carried_in}
use Rattle.read_entities.proofs.Passes.{pass-read}

-- an outcome with one value and one place
data Of {A : Type 0} (a : A) (place : ℕ) : Outcome A → Type 0 where
  of_accepted : Of a place (accepted a)
  of_refused : (f : Fault) → Of a place (refused f place)

good_of : {A : Type 0} {a : A} {place : ℕ} (o : Outcome A) → Of a place o → entity_answer o ≡ Ok tt → o ≡ accepted a
good_of o of_accepted h = refl
good_of o (of_refused f) h = let z : ◌≡◌ {A = ℕ} 0 1 = cc in absurd (omega arith)

refused_of : {A : Type 0} {a : A} {place : ℕ} (o : Outcome A) → Of a place o → (f : Fault) → entity_answer o ≡ Err f → o ≡ refused f place
refused_of o of_accepted f h = let z : ◌≡◌ {A = ℕ} 0 1 = cc in absurd (omega arith)
refused_of {A} {a} {place} o (of_refused g) f h = let e : g ≡ f = cc in ap (λ (x : Fault). refused x place) e

fault-of : (w : Verdict) (place : ℕ) → Of tt place (fault w place)
fault-of (Ok a) place = of_accepted
fault-of (Err n) place = of_refused _

check_of_lem : (list : ℕ) (types : List ℕ) (e : Entity) (place : ℕ) → Of tt place (entity_check list types e place)
unfolding entity_check
check_of_lem list types e place = by (known list e.typ e.form)
  where
    by : (b : Bool) → Of tt place (cond b (fault (verdict types e) place) (accepted tt))
    by true = fault-of (verdict types e) place
    by false = of_accepted

then_of : {A : Type 0} (a : A) (place : ℕ) (o : Outcome (Unit {0})) → Of tt place o → Of a place (o then λ _. accepted a)
then_of a place o of_accepted = of_accepted
then_of a place o (of_refused f) = of_refused f

parameters_of_lem : (list : ℕ) (types : List ℕ) (place : ℕ) (e : Listed) (vs : Values) → Of (carried e (carried_in vs)) place (by_parameters list types place e vs)
parameters_of_lem list types place e (wrong n start at) = of_refused n
parameters_of_lem list types place e (values vs end) = by (is_type (type_of e.fields) (get_or vs 0 default))
  where
    by : (b : Bool) → Of (carried e (trimmed (drop 1 vs))) place
        (demand b FirstValue place then λ _. entity_check list types (entity_of e.fields (trimmed (drop 1 vs))) place then λ _. accepted (carried e (trimmed (drop 1 vs))))
    by true =
        let x : Entity = entity_of e.fields (trimmed (drop 1 vs)) in
        then_of (carried e (trimmed (drop 1 vs))) place (entity_check list types x place) (check_of_lem list types x place)
    by false = of_refused FirstValue

-- what an accepted entry carries keeps to its layout, if the list knows it
parameters_keep : (list : ℕ) (types : List ℕ) (place : ℕ) (e : Listed) (vs : Values) (y : Carried) → by_parameters list types place e vs ≡ accepted y
    → known list (type_of y.fields) y.fields.form.size ≡ true → Keeps types (entity_of y.fields y.values)
parameters_keep list types place e vals y h =
    let a = entity_apart list types place e vals y h in
    rw a.is (accepts_keeps types (entity_of e.fields (trimmed (drop 1 a.items))) list place tt a.layout)

pub entity_keeps : (list : ℕ) (f : List ℕ) (c : Counts) (g : GlobalRead) (types : List ℕ) (place : ℕ) (e : Listed) (y : Carried) → entity_in list f c g types place e ≡ accepted y
    → known list (type_of y.fields) y.fields.form.size ≡ true → Keeps types (entity_of y.fields y.values)
unfolding entity_in
entity_keeps list f c g types place e y h = parameters_keep list types place e (values_at 64 g.parameter g.record_end (parameters_of f c e) 0) y h

module _ (list : ℕ) (f : List ℕ) (c : Counts) (g : GlobalRead) (types : List ℕ) (place : ℕ) (e : Listed) {r : EntityAnswer}
    (er : r ≡ entity_pass_of list types (type_of e.fields) e.fields.form.size (values_at 64 g.parameter g.record_end (parameters_of f c e) 0)) where
  -- accepted: the values behind the type are carried
  pub entity_good : r ≡ Ok tt
      → entity_in list f c g types place e ≡ accepted (carried e (carried_in (values_at 64 g.parameter g.record_end (parameters_of f c e) 0)))
  unfolding entity_in
  entity_good h =
      let vs : Values = values_at 64 g.parameter g.record_end (parameters_of f c e) 0 in
      good_of (by_parameters list types place e vs) (parameters_of_lem list types place e vs) (sym (pass-read list types place e vs) ∙ sym er ∙ h)

  -- refused: at the entry's place
  pub entity_refused : {n : Fault} → r ≡ Err n → entity_in list f c g types place e ≡ refused n place
  unfolding entity_in
  entity_refused {n} h =
      let vs : Values = values_at 64 g.parameter g.record_end (parameters_of f c e) 0 in
      refused_of (by_parameters list types place e vs) (parameters_of_lem list types place e vs) n (sym (pass-read list types place e vs) ∙ sym er ∙ h)

-- what an accepted entry carries: the values behind its type
pub entity-carries : (list : ℕ) (f : List ℕ) (c : Counts) (g : GlobalRead) (types : List ℕ) (place : ℕ) (e : Listed) (y : Carried) → entity_in list f c g types place e ≡ accepted y
    → y ≡ carried e (carried_in (values_at 64 g.parameter g.record_end (parameters_of f c e) 0))
unfolding entity_in
entity-carries list f c g types place e y h =
    let a = entity_apart list types place e (values_at 64 g.parameter g.record_end (parameters_of f c e) 0) y h in
    a.is ∙ ap (λ (vals : Values). carried e (carried_in vals)) (sym a.read)

-- what all of them carry
pub last_carries : (list : ℕ) (f : List ℕ) (c : Counts) (g : GlobalRead) (es : List Listed) (ys : List Carried) → last_pass list f c g es ≡ accepted ys
    → ys ≡ map (λ (e : Listed). carried e (carried_in (values_at 64 g.parameter g.record_end (parameters_of f c e) 0))) es
unfolding last_pass
last_carries list f c g es ys h = each_is two (entity_in list f c g (map listed_type es)) _ (entity-carries list f c g (map listed_type es)) (first_entry c) es ys h
