-- A file that reading accepts meets the rules. Assumes nothing.
use mathlib.Core.Path.{◌≡◌, refl, sym, ap, ◌∙◌}
use mathlib.Core.Bool.{true, false}
use mathlib.Core.List.{List, [], ◌∷◌}
use Prim.Native.Nat.{ℕ, ◌+◌, ◌*◌, ◌≤◌, ◌<◌}
use native.Mathlib.Omega.{arith}
use lib.ListN.{get_or, drop}
use borrow.Author.Tests.{eqb-true}
use Rattle.columns.specs.declared.Fault.TheVariants.{Reference}
use Rattle.columns.specs.Fixed.{signed_of}
use Rattle.columns.specs.Refusal.{Outcome, accepted, refused}
use Rattle.columns.specs.Format.{most_list}
use Rattle.columns.proofs.Outcomes.{then_accepted, demand_accepted}
use Rattle.values.specs.Value.{Item, default, whole, real, text}
use Rattle.records.specs.Record.{values, values_at, trimmed}
use Rattle.cards.specs.declared.Counts.{Counts}
use Rattle.cards.specs.Cards.{entries, entry_line}
use Rattle.cards.proofs.Complete.{rules}
use Rattle.directory.specs.declared.Fields.{Fields}
use Rattle.std.specs.Prelude.{Some}
use Rattle.directory.specs.Fields.{entry_of as directory_entry}
use Rattle.directory.specs.Lines.{slot_in, pointer, lines, entry_at, parameter_line as line_number, spelt_entry}
use Rattle.directory.specs.Rules.{reference_rule, references, all_fit}
use Rattle.directory.proofs.Ruled.{Ruled, rules_of}
use Rattle.directory.proofs.Within.{same_spelt}
use Rattle.owners.specs.InFile.{owner_in, from_in, count_in}
use Rattle.owners.specs.Rules.{Owns}
use Rattle.owners.proofs.Round.{passes_owns}
use Rattle.layouts.specs.Known.{known}
use Rattle.layouts.specs.Fits.{Keeps}
use Rattle.layouts.proofs.Fits.{accepts_keeps}
use Rattle.desk.proofs.Keeping.{all_kept}
use Rattle.model.specs.Model.{Carried, type_of, entity_of}
use Rattle.model.specs.Read.{Listed, Before, is_type, entry_in, by_parameters, parameters_of, entity_in, references_of, references_in, first_entry, last_pass, read_model, reads}
use Rattle.model.proofs.ReadApart.{entry_apart, entity_apart, read_apart}
use Rattle.model.proofs.Sizes.{size_same}
use Rattle.std.specs.Prelude.{Ok}
use Rattle.read_passes.specs.Passes.{pass_of}
use Rattle.read_passes.specs.Listed.{entry_of, all_types}
use Rattle.read_passes.specs.Walks.{entry_check}
use Rattle.read_passes.proofs.Facts.{Passed, passed_all, passed_entry}
use Rattle.read_passes.proofs.Spellings.{stood, types-length, types-at}
use Rattle.read_passes.proofs.Walks.{each_good, row_walk, entries_walk}
use Rattle.desk.specs.Rules.{Spells, EntryIs, InRange, EntryMeets, MeetsRules}
use Rattle.desk.proofs.Spelling.{is-spelt}
use Rattle.desk.proofs.GlobalRules.{global_sound}

never : ◌≡◌ {A = ℕ} 0 1 → ⊥
never z = omega arith

-- what passes is accepted
pub taken : {A : Type 0} (o : Outcome A) → pass_of o ≡ Ok tt → (a : A) × (o ≡ accepted a)
taken (accepted a) h = (a, refl)
taken (refused n p) h = let z : ◌≡◌ {A = ℕ} 0 1 = cc in absurd (never z)

-- ---- one entry

-- what its D lines say
abbrev pub entry_is : Listed → EntryIs
entry_is e = record { fields = e.fields; pointer = e.pointer; lines = e.lines }

ruled : (f : List ℕ) (p k : ℕ) (x : Fields) (from count : ℕ) → entry_at f k ≡ Some (spelt_entry x (line_number from) count) → pass_of (entry_in f p k) ≡ Ok tt → Ruled x
ruled f p k x from count e h =
    let t = taken (entry_in f p k) h in
    let a = entry_apart f p k t.0 t.1 in
    let q : a.fields ≡ x = (same_spelt _ _ (sym a.spelt ∙ e)).0 in
    rw (← q) (rules_of a.fields p tt a.rules)

-- ---- the values of one entry

pub record Valued (list : ℕ) (types : List ℕ) (x : Fields) (c d : ℕ) (t : List ℕ) : Type 0 where
  pub items : List Item
  pub end : ℕ
  pub spells : Spells 64 c d t 0 (whole false (type_of x) ∷ items) end
  pub layout : known list (type_of x) x.form.size ≡ true → Keeps types (entity_of x (trimmed items))

-- the first value is the type
pub first_is : (typ : ℕ) (vs : List Item) → is_type typ (get_or vs 0 default) ≡ true → vs ≡ whole false typ ∷ drop 1 vs
first_is typ [] h = let z : ◌≡◌ {A = ℕ} 0 1 = cc in absurd (never z)
first_is typ (default ∷ vs) h = let z : ◌≡◌ {A = ℕ} 0 1 = cc in absurd (never z)
first_is typ (whole true n ∷ vs) h = let z : ◌≡◌ {A = ℕ} 0 1 = cc in absurd (never z)
first_is typ (whole false n ∷ vs) h = rw (eqb-true n typ h)
first_is typ (real neg m eneg e double ∷ vs) h = let z : ◌≡◌ {A = ℕ} 0 1 = cc in absurd (never z)
first_is typ (text bs ∷ vs) h = let z : ◌≡◌ {A = ℕ} 0 1 = cc in absurd (never z)

valued : (list : ℕ) (types : List ℕ) (p : ℕ) (e : Listed) (c d : ℕ) (t : List ℕ) (y : Carried) → by_parameters list types p e (values_at 64 c d t 0) ≡ accepted y
    → Valued list types e.fields c d t
valued list types p e c d t y h =
    let a = entity_apart list types p e (values_at 64 c d t 0) y h in
    let first = first_is (type_of e.fields) a.items a.first in
    record {
      items = drop 1 a.items;
      end = a.end;
      spells = is-spelt 64 c d t 0 (whole false (type_of e.fields) ∷ drop 1 a.items) a.end (a.read ∙ ap (λ (l : List Item). values l a.end) first);
      layout = accepts_keeps types (entity_of e.fields (trimmed (drop 1 a.items))) list p tt a.layout;
    }

-- ---- all entries

module _ (list : ℕ) (f : List ℕ) (b : Before) (ys : List Carried) (p : Passed f b)
    (last : last_pass list f b.counts b.global b.listed ≡ accepted ys) where
  abbrev c : Counts
  c = b.counts

  abbrev types : List ℕ
  types = all_types f c

  rule_passes : (i : ℕ) → i < entries c → entry_check f c i ≡ Ok tt
  rule_passes i h = each_good (entry_check f c) (entries c) 0 i (sym (entries_walk f c) ∙ p.spelt) (omega arith) (omega arith)

  reference_passes : (i : ℕ) → i < entries c → pass_of (references_of types (first_entry c + 2 * i) (entry_of f c i)) ≡ Ok tt
  unfolding references_in
  reference_passes i h =
      each_good (λ j. pass_of (references_of types (first_entry c + 2 * j) (entry_of f c j))) (entries c) 0 i
      (sym (row_walk (references_of types) (entry_of f c) (first_entry c) (entries c) 0 (first_entry c) (omega arith)) ∙ p.refer) (omega arith) (omega arith)

  entity-passes : (i : ℕ) → i < entries c → pass_of (entity_in list f c b.global types (first_entry c + 2 * i) (entry_of f c i)) ≡ Ok tt
  unfolding last_pass
  entity-passes i h =
      each_good (λ j. pass_of (entity_in list f c b.global types (first_entry c + 2 * j) (entry_of f c j))) (entries c) 0 i
      (sym (row_walk (entity_in list f c b.global types) (entry_of f c) (first_entry c) (entries c) 0 (first_entry c) (omega arith))
      ∙ ap pass_of (rw p.listed at last)) (omega arith) (omega arith)

  fits : (i : ℕ) → i < entries c → all_fit types (references (directory_entry (entry_of f c i).fields)) ≡ true
  unfolding reference_rule
  fits i h =
      let t = taken (references_of types (first_entry c + 2 * i) (entry_of f c i)) (reference_passes i h) in
      demand_accepted _ Reference (first_entry c + 2 * i) t.1

  values_of : (i : ℕ) → i < entries c → Valued list types (entry_of f c i).fields b.global.parameter b.global.record_end (parameters_of f c (entry_of f c i))
  unfolding entity_in
  values_of i h =
      let t = taken (entity_in list f c b.global types (first_entry c + 2 * i) (entry_of f c i)) (entity-passes i h) in
      valued list types (first_entry c + 2 * i) (entry_of f c i) b.global.parameter b.global.record_end (parameters_of f c (entry_of f c i)) t.0 t.1

  -- ---- its range

  -- the pointer and line count that ownership goes by are those of the entry
  range_is : (i : ℕ) → i < entries c → ((entry_of f c i).pointer ≡ from_in f c i) × ((entry_of f c i).lines ≡ count_in f c i)
  unfolding from_in count_in
  range_is i h =
      let e = passed_entry f b p i h in
      let w = stood f (entry_line c i) e.fields e.from e.count e.is in (
        rw e.listed (w.from_is ∙ size_same (signed_of (slot_in f (entry_line c i) pointer)) w.from_some),
        rw e.listed (w.count-is ∙ size_same (signed_of (slot_in f (entry_line c i) lines)) w.count_some),
      )

  owns : Owns (owner_in f c) (from_in f c) (count_in f c) (entries c) c.p
  owns = passes_owns f c p.owned

  names_of : (i : ℕ) → i < entries c → (k : ℕ) → InRange (entry_is (entry_of f c i)) k → owner_in f c k ≡ 2 * i + 1
  names_of i h k r =
      let q = range_is i h in
      let from = q.0 in
      let count = q.1 in
      let low = r.0 in
      let high = r.1 in
      owns.names i k (record { is = h; after = omega arith; before = omega arith })

  owner_of_lem : (k : ℕ) → 1 ≤ k → k ≤ c.p → (i : ℕ) × ((i < entries c) × ((owner_in f c k ≡ 2 * i + 1) × InRange (entry_is (entry_of f c i)) k))
  owner_of_lem k low high =
      let o = owns.lines k low high in
      let q = range_is o.entry o.has.is in
      let from = q.0 in
      let count = q.1 in
      let after = o.has.after in
      let before = o.has.before in
      (o.entry, (o.has.is, (o.name, (omega arith, omega arith))))

  -- ---- all of it

  entry_meets : (i : ℕ) → i < entries c → EntryMeets list f c b.global.parameter b.global.record_end types i (entry_is (entry_of f c i))
  unfolding entry_check
  entry_meets i h =
      let e = passed_entry f b p i h in
      let v = values_of i h in
      let s : entry_at f (entry_line c i) ≡ Some (spelt_entry (entry_of f c i).fields (line_number (entry_of f c i).pointer) (entry_of f c i).lines) = rw e.listed e.is in
      let r = ruled f (first_entry c + 2 * i) (entry_line c i) (entry_of f c i).fields (entry_of f c i).pointer (entry_of f c i).lines s (rule_passes i h) in
      record {
        spelt = s;
        ranges = r.ranges;
        no_macro = r.no_macro;
        references_fit = fits i h;
        inside = rw e.listed e.stays;
        names = names_of i h;
        values = v.items;
        end = v.end;
        spells = v.spells;
        layout = λ k. all_kept types (entry_of f c i).fields v.items (v.layout k);
      }

  pub meets : list ≤ most_list → MeetsRules list f
  meets h =
      let g = global_sound f c b.global p.globals in
      record {
        list_ok = h;
        counts = c;
        lines = (rules f c).0 p.cards;
        parameter = b.global.parameter;
        closing = b.global.record_end;
        globals = g.items;
        global = g.is;
        global_fits_lem = g.fit;
        entry = λ i. entry_is (entry_of f c i);
        types = types;
        types-length = types-length f c;
        types_are = types-at f c;
        entry_meets = entry_meets;
        owned = owner_of_lem;
      }

pub sound_rules : (list : ℕ) (f s : List ℕ) → reads list f ≡ accepted s → MeetsRules list f
unfolding reads
sound_rules list f s h =
    let m = then_accepted (read_model list f) _ s h in
    let a = read_apart list f m.value m.first in
    meets list f a.whole a.carried (passed_all f a.whole a.told) a.passes a.listed
