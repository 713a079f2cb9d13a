-- The pass over one entity is that of `by_parameters`: a value that is the type, the kept values behind the first, the answer of a verdict.
-- Assumes nothing.
use mathlib.Core.Path.{◌≡◌, refl, ◌∙◌}
use mathlib.Core.Bool.{Bool, true, false, cond}
use mathlib.Core.List.{List}
use Prim.Native.Nat.{ℕ}
use native.Mathlib.Omega.{arith}
use lib.Dec.{eqb}
use lib.ListN.{length, get_or, drop}
use Rattle.columns.specs.declared.Fault.{Fault}
use Rattle.columns.specs.declared.Fault.TheVariants.{FirstValue}
use Rattle.columns.specs.Refusal.{Outcome, accepted, refused, demand, ◌then◌}
use Rattle.values.specs.declared.Value.{Value}
use Rattle.values.specs.declared.Value.TheVariants.{Default, Whole, Real, Text}
use Rattle.values.specs.Value.{Item, default, item_of}
use Rattle.std.specs.Prelude.{Ok}
use Rattle.records.specs.declared.Check.{Check}
use Rattle.records.specs.Record.{Values, values, wrong, trimmed, kept}
use Rattle.records.specs.Reading.{checked}
use Rattle.std.specs.Prelude.{Err}
use Rattle.layouts.specs.Verdict.{Verdict}
use Rattle.layouts.specs.Known.{known}
use Rattle.layouts.specs.Entities.{Entity, verdict, fault, entity_check}
use Rattle.model.specs.Model.{type_of}
use Rattle.model.specs.Read.{Listed, is_type, by_parameters, carried}
use Rattle.read_entities.specs.Taking.{entity_with}
use Rattle.read_entities.specs.Answers.{entity_answer, entity_pass_of, type_read, verdict_answer}

-- ---- the answer for an entry of the file

then_carried : {A : Type 0} (o : Outcome (Unit {0})) (a : A) → entity_answer o ≡ entity_answer (o then λ _. accepted a)
then_carried (accepted u) a = refl
then_carried (refused n p) a = refl

fault-place : (w : Verdict) (p q : ℕ) → entity_answer (fault w p) ≡ entity_answer (fault w q)
fault-place (Ok a) p q = refl
fault-place (Err n) p q = refl

check_place : (list : ℕ) (types : List ℕ) (e : Entity) (p q : ℕ) → entity_answer (entity_check list types e p) ≡ entity_answer (entity_check list types e q)
unfolding entity_check
check_place list types e p q = by (known list e.typ e.form)
  where
    by : (b : Bool) → entity_answer (cond b (fault (verdict types e) p) (accepted tt)) ≡ entity_answer (cond b (fault (verdict types e) q) (accepted tt))
    by true = fault-place (verdict types e) p q
    by false = refl

-- what the pass says of an entry is told by its type and its form
pub pass-read : (list : ℕ) (types : List ℕ) (place : ℕ) (e : Listed) (vs : Values)
    → entity_pass_of list types (type_of e.fields) e.fields.form.size vs ≡ entity_answer (by_parameters list types place e vs)
unfolding entity_pass_of
pass-read list types place e (wrong n start at) = refl
pass-read list types place e (values vs end) = by (is_type (type_of e.fields) (get_or vs 0 default))
  where
    by : (b : Bool)
        → entity_answer (demand b FirstValue 0 then λ _. entity_check list types (entity_with (type_of e.fields) e.fields.form.size (trimmed (drop 1 vs))) 0)
        ≡ entity_answer (demand b FirstValue place then λ _. entity_check list types (entity_with (type_of e.fields) e.fields.form.size (trimmed (drop 1 vs))) place then λ _. accepted (carried e (trimmed (drop 1 vs))))
    by true =
        let x : Entity = entity_with (type_of e.fields) e.fields.form.size (trimmed (drop 1 vs)) in
        check_place list types x 0 place ∙ then_carried (entity_check list types x place) (carried e (trimmed (drop 1 vs)))
    by false = refl

-- ---- a value that is the type

module _ (typ : ℕ) {v : Value} where
  pub type_whole : {neg : Bool} {size : ℕ} → v ≡ Whole neg size → neg ≡ false → eqb size typ ≡ type_read typ v
  type_whole e h = rw (e, h)

  pub type_negative : {neg : Bool} {size : ℕ} → v ≡ Whole neg size → neg ≡ true → false ≡ type_read typ v
  type_negative e h = rw (e, h)

  pub type_default : v ≡ Default → false ≡ type_read typ v
  type_default e = rw e

  pub type_real : {neg : Bool} {m : ℕ} {eneg : Bool} {e : ℕ} {double : Bool} → v ≡ Real neg m eneg e double → false ≡ type_read typ v
  type_real e = rw e

  pub type_text : {start count : ℕ} → v ≡ Text start count → false ≡ type_read typ v
  type_text e = rw e

pub ruleset typing = (type_whole, type_negative, type_default, type_real, type_text)

pub read_type : (typ : ℕ) (t : List ℕ) (v : Value) → is_type typ (item_of t v) ≡ type_read typ v
read_type typ t Default = refl
read_type typ t (Whole neg size) = refl
read_type typ t (Real neg m eneg e double) = refl
read_type typ t (Text start count) = refl

-- ---- the values behind the first

-- a record whose check is done
pub record Accepted (vals : Values) (n m end : ℕ) : Type 0 where
  pub vs : List Item
  pub is : vals ≡ values vs end
  pub count : n ≡ length vs
  pub keeps : m ≡ kept vs

pub done_values : (vals : Values) (x : Check) → checked vals ≡ Ok x → Accepted vals x.count x.kept x.end
done_values (values vs to) x h = record { vs = vs; is = cc; count = cc; keeps = cc }
done_values (wrong f s at) x h = let z : ◌≡◌ {A = ℕ} 0 1 = cc in absurd (omega arith)

-- ---- the pass

pub answer-fault : (w : Verdict) (p : ℕ) → verdict_answer w ≡ entity_answer (fault w p)
answer-fault (Ok a) p = refl
answer-fault (Err n) p = refl

module _ {w : Verdict} where
  pub answer_good : w ≡ Ok tt → Ok tt ≡ verdict_answer w
  answer_good e = rw e

  pub answer_fault : {n : Fault} → w ≡ Err n → Err n ≡ verdict_answer w
  answer_fault e = rw e

pub ruleset answering = (answer_good, answer_fault)
