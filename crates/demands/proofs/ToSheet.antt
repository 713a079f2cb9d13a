-- The sheet of a model that fits is written: its text is read as that sheet, which keeps the rules, and its model is the one it was made of. Assumes nothing.
use mathlib.Core.Path.{◌≡◌, ap}
use mathlib.Core.Bool.{Bool, true}
use mathlib.Core.List.{List, [], ◌∷◌, map}
use Prim.Native.Nat.{ℕ}
use lib.ListN.{length-map}
use borrow.Author.Tests.{le-leb}
use Rattle.columns.specs.declared.Fault.TheVariants.{Global, Reference, Mark}
use Rattle.columns.specs.Refusal.{accepted}
use Rattle.columns.specs.Format.{most_list}
use Rattle.columns.proofs.Outcomes.{demand_true}
use Rattle.columns.proofs.Tests.{both_true}
use Rattle.values.specs.Value.{Item, seen}
use Rattle.records.specs.Global.{global_fits}
use Rattle.directory.specs.Rules.{reference_rule}
use Rattle.directory.proofs.Ruled.{rules_pass_lem}
use Rattle.layouts.specs.Known.{known}
use Rattle.layouts.specs.Entities.{entity_check, marks}
use Rattle.layouts.proofs.Fits.{keeps_accepts}
use Rattle.sheets.specs.Sheet.{sheet_text}
use Rattle.sheets.specs.WellFormed.{Each, none, one, Closed, no_rows, a-row, RowSpelt, WellFormed}
use Rattle.sheets.proofs.Sheets.{read-written}
use Rattle.model.specs.Model.{Carried, Model, type_of, types_of, entity_of, row_of, sheet_of, value_in}
use Rattle.model.specs.Write.{global_rule, row_rules, row_references, row_entity, marks_right, row_entity_rules, row_size, first_global, first_row, sheet_rules, write_model, one as one_line}
use Rattle.model.specs.Fit.{InKind, EntryFits, Fits}
use Rattle.sheets.proofs.Each.{each_made, each_accepts, made_accepts}
use Rattle.demands.proofs.Trims.{ends_given}
use Rattle.demands.proofs.Marks.{equal_self, all_equal_self}
use Rattle.demands.proofs.Rows.{row_values, row-marks, model_again, types_again}

-- ---- it has a text

-- what holds of each value holds of each with its mark
each_value : {P : Item → Type 0} (ws : List (Bool × Item)) → Each P (map value_in ws) → Each (λ (w : Bool × Item). P w.1) ws
each_value [] none = none
each_value (w ∷ ws) (one p ps) = one p (each_value ws ps)

module _ (list : ℕ) (types : List ℕ) where
  rows-closed : {es : List Carried} → Each (EntryFits list types) es → Closed (map (row_of list) es)
  rows-closed none = no_rows
  rows-closed (one {x = e} f fs) = a-row (ends_given (row_of list e).values (rw (row_values list e) f.last_is_given)) (rows-closed fs)

  row-spelt : (e : Carried) → EntryFits list types e → RowSpelt (row_of list e)
  unfolding row_of
  row-spelt e f = record { numbers = f.numbers; label = f.label; values = each_value (row_of list e).values (rw (row_values list e) f.values) }

pub sheet_formed : (list : ℕ) (m : Model) → Fits list m → WellFormed (sheet_of list m)
unfolding sheet_of
sheet_formed list m f = record {
  ordered = record { some = f.some; rising = f.rising; closed = rows-closed list (types_of m.entries) f.entries };
  spelt = record {
    starts = f.starts;
    globals = f.globals;
    rows = each_made (row_of list) (row-spelt list (types_of m.entries)) f.entries;
    few = rw (length-map m.entries (row_of list)) f.few;
  };
}

-- ---- it keeps the rules

module _ (list : ℕ) (types : List ℕ) (e : Carried) (f : EntryFits list types e) (p : ℕ) where
  -- 9, 13
  row_rules_lem : row_rules p (row_of list e) ≡ accepted tt
  unfolding row_of
  row_rules_lem = rules_pass_lem e.fields f.ranges f.no_macro p

  -- 10
  row-references : row_references types p (row_of list e) ≡ accepted tt
  unfolding row_of reference_rule
  row-references = demand_true _ Reference p f.references_fit

  entity-is : row_entity (row_of list e) ≡ entity_of e.fields e.values
  unfolding row_of
  entity-is = ap (entity_of e.fields) (row_values list e)

  marks_right_lem : marks_right list (row_of list e) ≡ true
  unfolding row_of
  marks_right_lem =
      both_true (equal_self (known list (type_of e.fields) e.fields.form.size))
      (rw (row-marks list e, entity-is) (all_equal_self (marks list (entity_of e.fields e.values))))

  -- 14, 15, then 18
  row-entity : row_entity_rules list types p (row_of list e) ≡ accepted tt
  row-entity =
      let check : entity_check list types (row_entity (row_of list e)) p ≡ accepted tt = rw entity-is (keeps_accepts types (entity_of e.fields e.values) list p f.layout) in
      rw check (demand_true (marks_right list (row_of list e)) Mark p marks_right_lem)

-- 8; each entry 9, 13; all 10; each entry 14, 15, 18
rules_kept : (list : ℕ) (m : Model) → Fits list m → sheet_rules list (sheet_of list m) ≡ accepted tt
unfolding sheet_rules sheet_of
rules_kept list m f =
    let globals = each_accepts one_line global_rule globals-kept (first_global (sheet_of list m)) f.in_kind in
    let rules = made_accepts row_size row_rules (row_of list) (λ p e k. row_rules_lem list types e k p) (first_row (sheet_of list m)) f.entries in
    let refer = made_accepts row_size (row_references types) (row_of list) (λ p e k. row-references list types e k p) (first_row (sheet_of list m)) f.entries in
    let entities = made_accepts row_size (row_entity_rules list types) (row_of list) (λ p e k. row-entity list types e k p) (first_row (sheet_of list m)) f.entries in
    rw (globals.1, rules.1, types_again list m, refer.1, entities.1)
  where
    types : List ℕ
    types = types_of m.entries

    globals-kept : (p : ℕ) (g : ℕ × Item) → InKind g → global_rule p g ≡ accepted tt
    globals-kept p g k = demand_true (global_fits g.0 (seen g.1)) Global p k

-- ---- it is written

pub fits-writes : (list : ℕ) (m : Model) → Fits list m → write_model list (sheet_text (sheet_of list m)) ≡ accepted m
unfolding write_model
fits-writes list m f =
    rw (le-leb list most_list f.list_ok, read-written (sheet_of list m) (sheet_formed list m f), rules_kept list m f, model_again list m)
