-- A file that is read has a model that fits: the sheet and the canonical file can spell it. Assumes nothing.
use mathlib.Core.Path.{◌≡◌, sym, ap, ◌∙◌}
use mathlib.Core.List.{List, map, map-map}
use Prim.Native.Nat.{ℕ, suc, ◌*◌, ◌≤◌}
use native.Mathlib.Omega.{arith}
use lib.ListN.{length, drop, length-map}
use Rattle.columns.specs.First.{up_from}
use Rattle.columns.specs.Refusal.{accepted}
use Rattle.columns.specs.Format.{most_list, most_integer}
use Rattle.columns.proofs.First.{length_up_from}
use Rattle.columns.proofs.Stops.{each_alike}
use Rattle.records.specs.Record.{Values, values, values_at, trimmed}
use Rattle.records.proofs.Fine.{trim_idle}
use Rattle.cards.specs.declared.Counts.{Counts}
use Rattle.cards.specs.Cards.{first_g, entries}
use Rattle.cards.specs.Rules.{Meets}
use Rattle.cards.proofs.Complete.{rules}
use Rattle.layouts.proofs.Fits.{accepts_keeps}
use Rattle.sheets.specs.WellFormed.{Each}
use Rattle.model.specs.Model.{Carried, Model, type_of, types_of, entity_of, fields_in}
use Rattle.model.specs.Read.{Listed, Before, GlobalRead, global_text, two, first_entry, by_parameters, parameters_of, entity_in, listed_type, last_pass, model_with, read_model}
use Rattle.model.specs.Fit.{EntryFits, Fits}
use Rattle.model.proofs.ReadApart.{entity_apart, read_apart}
use Rattle.read_passes.specs.Listed.{entry_of}
use Rattle.read_passes.proofs.Facts.{Passed, passed_all}
use Rattle.desk.proofs.Sound.{first_is}
use Rattle.sheets.proofs.Each.{each_also, each_both, each_from}
use Rattle.demands.proofs.Printable.{text_prints}
use Rattle.demands.proofs.Starts.{starts_fit, starts_some}
use Rattle.demands.proofs.Values.{rest_held}
use Rattle.demands.proofs.GlobalFields.{globals_fit}
use Rattle.demands.proofs.Listed.{Told, Refers, ParametersPrint, ready}

-- ---- one entity of the last pass

-- what is known of it before the last pass
abbrev BeforeLast : List ℕ → Counts → List ℕ → Listed → Type 0
BeforeLast f c types e = Told e × (Refers types e × ParametersPrint f c e)

module _ (list : ℕ) (f : List ℕ) (c : Counts) (g : GlobalRead) (types : List ℕ) (p : ℕ) (e : Listed) (y : Carried) where
  abbrev read : Values
  read = values_at 64 g.parameter g.record_end (parameters_of f c e) 0

  by_values_lem : BeforeLast f c types e → by_parameters list types p e read ≡ accepted y → EntryFits list types y
  by_values_lem k h =
      let a = entity_apart list types p e read y h in
      rw a.is (record {
        numbers = k.0.numbers;
        ranges = k.0.ruled.ranges;
        no_macro = k.0.ruled.no_macro;
        label = k.0.label;
        references_fit = k.1.0;
        values = rest_held 64 g.parameter g.record_end (parameters_of f c e) k.1.1 0 a.read (first_is (type_of e.fields) a.items a.first);
        last_is_given = trim_idle (drop 1 a.items);
        layout = accepts_keeps types (entity_of e.fields (trimmed (drop 1 a.items))) list p tt a.layout;
      })

  entity-fits : BeforeLast f c types e → entity_in list f c g types p e ≡ accepted y → EntryFits list types y
  unfolding entity_in
  entity-fits k h = by_values_lem k h

  -- it is of the type that its D lines tell
  type_kept : entity_in list f c g types p e ≡ accepted y → type_of (fields_in y) ≡ listed_type e
  unfolding entity_in
  type_kept h = ap (λ (x : Carried). type_of (fields_in x)) (entity_apart list types p e read y h).is

-- ---- the file

module _ (list : ℕ) (f : List ℕ) (b : Before) (ys : List Carried) (p : Passed f b) (last : last_pass list f b.counts b.global b.listed ≡ accepted ys) where
  abbrev c : Counts
  c = b.counts

  meets : Meets f c
  meets = (rules f c).0 p.cards

  types-kept : types_of ys ≡ map listed_type b.listed
  unfolding last_pass
  types-kept =
      map-map type_of fields_in ys
      ∙ each_alike two (entity_in list f c b.global (map listed_type b.listed)) (λ e. type_of (fields_in e)) listed_type
      (type_kept list f c b.global (map listed_type b.listed)) (first_entry c) b.listed ys last

  entries_fit : Each (EntryFits list (types_of ys)) ys
  unfolding last_pass
  entries_fit =
      let r = ready f b p meets in
      rw types-kept (each_from two (entity_in list f c b.global (map listed_type b.listed)) (entity-fits list f c b.global (map listed_type b.listed)) (first_entry c)
      (each_both r.each_told (each_both r.each_refers r.each_prints)) ys last)

  -- there are no more entries than lines
  entries_few : 2 * length ys ≤ suc most_integer
  entries_few =
      let l : length (types_of ys) ≡ length ys = length-map (map fields_in ys) type_of ∙ length-map ys fields_in in
      let k : length (map listed_type b.listed) ≡ entries c
      = length-map b.listed listed_type ∙ ap length p.listed ∙ length-map (up_from 0 (entries c)) (entry_of f c) ∙ length_up_from (entries c) 0 in
      let n : length ys ≡ entries c = sym l ∙ ap length types-kept ∙ k in
      omega (arith, meets.holds.most)

  model-fits : list ≤ most_list → Fits list (model_with f c b.global ys)
  model-fits h =
      let g = globals_fit c (global_text f c) b.global (text_prints f c meets c.g (first_g c) 72 (omega arith) (omega arith)) p.said in
      record {
        list_ok = h;
        some = starts_some f c meets;
        starts = starts_fit f c meets;
        rising = g.rising;
        globals = each_also (λ x k. k.0) g.each;
        in_kind = each_also (λ x k. k.1) g.each;
        entries = entries_fit;
        few = entries_few;
      }

pub read_fits : (list : ℕ) (f : List ℕ) (m : Model) → read_model list f ≡ accepted m → Fits list m
read_fits list f m h =
    let a = read_apart list f m h in
    let k = model-fits list f a.whole a.carried (passed_all f a.whole a.told) a.passes a.listed in
    rw (← a.is) at k
