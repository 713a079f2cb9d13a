-- What reading accepted, taken apart: each of its steps was accepted. Assumes nothing.
use mathlib.Core.Path.{◌≡◌, refl, ◌∙◌}
use mathlib.Core.Bool.{Bool, true, false}
use mathlib.Core.List.{List, []}
use Prim.Native.Nat.{ℕ, ◌≤◌}
use native.Mathlib.Omega.{arith}
use lib.ListN.{length, get_or, drop}
use lib.Dec.{leb, eqb}
use borrow.Author.Tests.{leb-true, eqb-true}
use Rattle.columns.specs.declared.Fault.TheVariants.{ListOrLength, Global, FirstValue}
use Rattle.columns.specs.declared.ParameterLine.{ParameterLine}
use Rattle.columns.specs.First.{first_not}
use Rattle.columns.specs.Refusal.{accepted, demand, ◌then◌}
use Rattle.columns.specs.Format.{most_list}
use Rattle.columns.proofs.Outcomes.{then_accepted, demand_accepted}
use Rattle.values.specs.Value.{Item, default}
use Rattle.records.specs.declared.Opening.{Opening}
use Rattle.std.specs.Prelude.{Option, Some, None}
use Rattle.records.specs.Record.{Values, values, wrong, values_at, start_at, trimmed}
use Rattle.records.specs.Global.{opens, first_field, opening_of}
use Rattle.cards.specs.declared.Counts.{Counts}
use Rattle.cards.specs.Cards.{cards_of, outcome}
use Rattle.directory.specs.declared.Fields.{Fields}
use Rattle.directory.specs.declared.Spelt.{Spelt}
use Rattle.directory.specs.Lines.{entry_at, label_at, spelt_entry}
use Rattle.directory.specs.Rules.{entry_rules}
use Rattle.owners.specs.InFile.{owners_in, outcome as ownership_outcome}
use Rattle.layouts.specs.Entities.{entity_check}
use Rattle.model.specs.Model.{Carried, Model, type_of, entity_of}
use Rattle.model.specs.Read.{GlobalRead, global_read, Listed, Before, global_text, global_line, no_stray, field_fits, given, by_values, by_opening, global_in, by_entry, entry_in, entries_in, references_in, is_type, carried, by_parameters, last_pass, model_with, before, read_model}

-- ---- G

-- its opening alone, or its values, which fit their fields; and nothing behind them
pub data GlobalApart (c : Counts) (t : List ℕ) (g : GlobalRead) : Type 0 where
  alone : (p d next : ℕ) → opening_of t ≡ opens p d next true → no_stray c t next ≡ accepted tt → g ≡ global_read p d [] → GlobalApart c t g
  more : (p d next : ℕ) (vs : List Item) (end : ℕ) → opening_of t ≡ opens p d next false → values_at 72 p d t next ≡ values vs end → no_stray c t end ≡ accepted tt
      → first_not (field_fits vs) 0 (length vs) ≡ length vs → g ≡ global_read p d (given first_field vs) → GlobalApart c t g

values_apart : (c : Counts) (t : List ℕ) (p d next : ℕ) (g : GlobalRead) (r : Values) → opening_of t ≡ opens p d next false → values_at 72 p d t next ≡ r
    → by_values c t p d next r ≡ accepted g → GlobalApart c t g
values_apart c t p d next g (wrong n s at) eo ev h = let z : ◌≡◌ {A = ℕ} 0 1 = cc in absurd (omega arith)
values_apart c t p d next g (values vs end) eo ev h =
    let b = then_accepted (no_stray c t end) _ g h in
    by (first_not (field_fits vs) 0 (length vs)) refl b.first b.second
  where
    by : (k : ℕ) → first_not (field_fits vs) 0 (length vs) ≡ k → no_stray c t end ≡ accepted tt
        → demand (eqb k (length vs)) Global (global_line c (start_at 72 p d t next k)) then (λ _. accepted (global_read p d (given first_field vs))) ≡ accepted g → GlobalApart c t g
    by k e s h =
        let b = then_accepted (demand (eqb k (length vs)) Global (global_line c (start_at 72 p d t next k))) (λ _. accepted (global_read p d (given first_field vs))) g h in
        let q = b.second in
        more p d next vs end eo ev s (e ∙ eqb-true k (length vs) (demand_accepted (eqb k (length vs)) Global _ b.first)) (cc)

pub global_apart : (f : List ℕ) (c : Counts) (g : GlobalRead) → global_in f c ≡ accepted g → GlobalApart c (global_text f c) g
unfolding global_in
global_apart f c g h = by (opening_of (global_text f c)) refl h
  where
    by : (o : Option Opening) → opening_of (global_text f c) ≡ o → by_opening c (global_text f c) o ≡ accepted g → GlobalApart c (global_text f c) g
    by None e h = let z : ◌≡◌ {A = ℕ} 0 1 = cc in absurd (omega arith)
    by (Some o) e h = opened o.parameter o.closing o.next o.last e h
      where
        opened : (p d next : ℕ) (last : Bool) → opening_of (global_text f c) ≡ opens p d next last → by_opening c (global_text f c) (opens p d next last) ≡ accepted g → GlobalApart c (global_text f c) g
        opened p d next true e h =
            let b = then_accepted (no_stray c (global_text f c) next) (λ _. accepted (global_read p d [])) g h in
            let s = b.second in
            alone p d next e b.first (cc)
        opened p d next false e h = values_apart c (global_text f c) p d next g (values_at 72 p d (global_text f c) next) e refl h

-- ---- an entry

-- its D lines are spelt, and it keeps 9 and 13
pub record EntryApart (f : List ℕ) (place k : ℕ) (y : Listed) : Type 0 where
  pub fields : Fields
  pub from : ParameterLine
  pub count : ℕ
  pub spelt : entry_at f k ≡ Some (spelt_entry fields from count)
  pub rules : entry_rules fields place ≡ accepted tt
  pub is : y ≡ record { fields = fields; label = label_at f k; pointer = from.0; lines = count }

pub entry_apart : (f : List ℕ) (place k : ℕ) (y : Listed) → entry_in f place k ≡ accepted y → EntryApart f place k y
unfolding entry_in
entry_apart f place k y h = by (entry_at f k) refl h
  where
    by : (r : Option Spelt) → entry_at f k ≡ r → by_entry (label_at f k) place r ≡ accepted y → EntryApart f place k y
    by None e h = let z : ◌≡◌ {A = ℕ} 0 1 = cc in absurd (omega arith)
    by (Some r) e h =
        let b = then_accepted (entry_rules r.fields place) (λ _. accepted (record { fields = r.fields; label = label_at f k; pointer = r.pointer.0; lines = r.lines })) y h in
        let s = b.second in
        record { fields = r.fields; from = r.pointer; count = r.lines; spelt = e; rules = b.first; is = cc }

-- ---- an entity of the last pass

-- its values are spelt, the first is its type, the others keep to its layout if the list knows it, and those up to the last given are carried
pub record EntityApart (list : ℕ) (types : List ℕ) (place : ℕ) (e : Listed) (vals : Values) (y : Carried) : Type 0 where
  pub items : List Item
  pub end : ℕ
  pub read : vals ≡ values items end
  pub first : is_type (type_of e.fields) (get_or items 0 default) ≡ true
  pub layout : entity_check list types (entity_of e.fields (trimmed (drop 1 items))) place ≡ accepted tt
  pub is : y ≡ carried e (trimmed (drop 1 items))

pub entity_apart : (list : ℕ) (types : List ℕ) (place : ℕ) (e : Listed) (vals : Values) (y : Carried) → by_parameters list types place e vals ≡ accepted y
    → EntityApart list types place e vals y
entity_apart list types place e (wrong n start at) y h = let z : ◌≡◌ {A = ℕ} 0 1 = cc in absurd (omega arith)
entity_apart list types place e (values vs end) y h =
    let a = then_accepted (demand (is_type (type_of e.fields) (get_or vs 0 default)) FirstValue place) _ y h in
    let b = then_accepted (entity_check list types (entity_of e.fields (trimmed (drop 1 vs))) place) _ y a.second in
    let s = b.second in
    record { items = vs; end = end; read = refl; first = demand_accepted _ FirstValue place a.first; layout = b.first; is = cc }

-- ---- the file

-- what passed all that is asked before the last pass: lines, G, each entry, what entries name, whose P lines are whose
pub record BeforeApart (f : List ℕ) (b : Before) : Type 0 where
  pub counts : outcome (cards_of f) ≡ accepted b.counts
  pub globals : global_in f b.counts ≡ accepted b.global
  pub entries : entries_in f b.counts ≡ accepted b.listed
  pub named : List (Unit {0})
  pub references : references_in b.counts b.listed ≡ accepted named
  pub owned : ownership_outcome b.counts (owners_in f b.counts) ≡ accepted tt

pub before_apart : (f : List ℕ) (b : Before) → before f ≡ accepted b → BeforeApart f b
unfolding before
before_apart f b h =
    let s₁ = then_accepted (outcome (cards_of f)) _ b h in
    let s₂ = then_accepted (global_in f s₁.value) _ b s₁.second in
    let s₃ = then_accepted (entries_in f s₁.value) _ b s₂.second in
    let s₄ = then_accepted (references_in s₁.value s₃.value) _ b s₃.second in
    let s₅ = then_accepted (ownership_outcome s₁.value (owners_in f s₁.value)) _ b s₄.second in
    by s₁.value s₂.value s₃.value s₄.value s₁.first s₂.first s₃.first s₄.first s₅.first s₅.second
  where
    by : (c : Counts) (g : GlobalRead) (es : List Listed) (us : List (Unit {0})) → outcome (cards_of f) ≡ accepted c → global_in f c ≡ accepted g → entries_in f c ≡ accepted es
        → references_in c es ≡ accepted us → ownership_outcome c (owners_in f c) ≡ accepted tt → accepted (record { counts = c; global = g; listed = es }) ≡ accepted b → BeforeApart f b
    by c g es us h₁ h₂ h₃ h₄ h₅ h₆ =
        let e : record { counts = c; global = g; listed = es } ≡ b = cc in
        rw (← e) (record { counts = h₁; globals = h₂; entries = h₃; named = us; references = h₄; owned = h₅ })

-- what was read: the list is one, all before the last pass was accepted, and the last pass
pub record ReadApart (list : ℕ) (f : List ℕ) (m : Model) : Type 0 where
  pub listed : list ≤ most_list
  pub whole : Before
  pub told : before f ≡ accepted whole
  pub carried : List Carried
  pub passes : last_pass list f whole.counts whole.global whole.listed ≡ accepted carried
  pub is : m ≡ model_with f whole.counts whole.global carried

pub read_apart : (list : ℕ) (f : List ℕ) (m : Model) → read_model list f ≡ accepted m → ReadApart list f m
unfolding read_model
read_apart list f m h =
    let s₁ = then_accepted (demand (leb list most_list) ListOrLength 0) _ m h in
    let s₂ = then_accepted (before f) _ m s₁.second in
    let s₃ = then_accepted (last_pass list f s₂.value.counts s₂.value.global s₂.value.listed) _ m s₂.second in
    let q = s₃.second in
    record {
      listed = leb-true list most_list (demand_accepted (leb list most_list) ListOrLength 0 s₁.first);
      whole = s₂.value;
      told = s₂.first;
      carried = s₃.value;
      passes = s₃.first;
      is = cc;
    }
