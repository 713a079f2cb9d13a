-- A sheet that is accepted has a model that fits, and is that model's sheet: its marks are the ones that the list gives. Assumes nothing.
use mathlib.Core.Path.{◌≡◌, refl, sym, ap, ap₂, ◌∙◌}
use mathlib.Core.Bool.{Bool, true}
use mathlib.Core.List.{List, ◌∷◌, map}
use Prim.Native.Nat.{ℕ, ◌≤◌}
use lib.ListN.{length-map}
use Rattle.columns.specs.declared.Fault.TheVariants.{Global, Reference, Mark}
use Rattle.columns.specs.Refusal.{accepted}
use Rattle.columns.specs.Format.{most_list}
use Rattle.columns.proofs.Outcomes.{then_accepted, demand_accepted}
use Rattle.columns.proofs.Tests.{both}
use Rattle.values.specs.Value.{Item, seen}
use Rattle.records.specs.Global.{global_fits}
use Rattle.directory.specs.Fields.{entry_of}
use Rattle.directory.specs.Rules.{reference_rule, references, all_fit}
use Rattle.layouts.specs.Known.{known}
use Rattle.layouts.specs.Fits.{Keeps}
use Rattle.layouts.specs.Entities.{entity_check, marks}
use Rattle.layouts.proofs.Fits.{accepts_keeps}
use Rattle.sheets.specs.Sheet.{Row, Sheet, row}
use Rattle.sheets.specs.Order.{read_sheet}
use Rattle.sheets.specs.WellFormed.{Each, none, one, Closed, no_rows, a-row, RowSpelt}
use Rattle.sheets.proofs.Sheets.{written_read}
use Rattle.model.specs.Model.{type_of, row_of, sheet_of, marked, value_in, mark_in, carried_of, model_of}
use Rattle.model.specs.Write.{equal, all_equal, global_rule, row_rules, row_references, row_entity, marks_right, row_entity_rules, row_types, row_size, first_global, first_row, sheet_rules, one as one_line}
use Rattle.model.proofs.WriteApart.{rules_apart}
use Rattle.model.specs.Fit.{InKind, EntryFits, Fits}
use Rattle.directory.proofs.Ruled.{Ruled, rules_of}
use Rattle.sheets.proofs.Each.{each_made, each_accepted}
use Rattle.demands.proofs.Trims.{given_ends}
use Rattle.demands.proofs.Marks.{marked_own, equal_is, all_equal_is}

-- ---- one entry

-- what the rules of a sheet say of an entry, each on its own
abbrev RuledRow : Row → Type 0
RuledRow r = Ruled r.fields

abbrev Refers : List ℕ → Row → Type 0
Refers types r = all_fit types (references (entry_of r.fields)) ≡ true

record LaidOut (list : ℕ) (types : List ℕ) (r : Row) : Type 0 where
  layout : known list (type_of r.fields) r.fields.form.size ≡ true → Keeps types (row_entity r)
  marks_right_lem : marks_right list r ≡ true

refers : (types : List ℕ) (p : ℕ) (r : Row) (u : Unit {0}) → row_references types p r ≡ accepted u → Refers types r
unfolding reference_rule
refers types p r u h = demand_accepted _ Reference p h

laid_out : (list : ℕ) (types : List ℕ) (p : ℕ) (r : Row) (u : Unit {0}) → row_entity_rules list types p r ≡ accepted u → LaidOut list types r
laid_out list types p r u h =
    let b = then_accepted (entity_check list types (row_entity r) p) _ u h in
    record { layout = accepts_keeps types (row_entity r) list p b.value b.first; marks_right_lem = demand_accepted (marks_right list r) Mark p b.second }

-- its marks are the list's
row_is : (list : ℕ) (r : Row) → marks_right list r ≡ true → row_of list (carried_of r) ≡ r
unfolding row_of
row_is list r h =
    let b = both (equal r.known (known list (row_entity r).typ (row_entity r).form)) (all_equal (map mark_in r.values) (marks list (row_entity r))) h in
    ap₂ (λ (k : Bool) (ws : List (Bool × Item)). row k r.fields r.label ws) (sym (equal_is _ _ b.0))
    (ap (λ (bs : List Bool). marked bs (map value_in r.values)) (sym (all_equal_is _ _ b.1)) ∙ marked_own r.values)

-- ---- all entries

module _ (list : ℕ) (types : List ℕ) where
  rows_fit : {rs : List Row} → Each RowSpelt rs → Closed rs → Each RuledRow rs → Each (Refers types) rs → Each (LaidOut list types) rs
      → Each (EntryFits list types) (map carried_of rs)
  rows_fit none no_rows none none none = none
  rows_fit (one {x = r} s ss) (a-row c cs) (one u us) (one f fs) (one l ls) =
      one (record {
        numbers = s.numbers;
        ranges = u.ranges;
        no_macro = u.no_macro;
        label = s.label;
        references_fit = f;
        values = each_made value_in (λ w h. h) s.values;
        last_is_given = given_ends r.values c;
        layout = l.layout;
      }) (rows_fit ss cs us fs ls)

  rows_are : {rs : List Row} → Each (LaidOut list types) rs → map (row_of list) (map carried_of rs) ≡ rs
  rows_are none = refl
  rows_are (one {x = r} l ls) = ap₂ (λ (q : Row) (qs : List Row). q ∷ qs) (row_is list r l.marks_right_lem) (rows_are ls)

-- ---- the sheet

-- what its rules say
record Kept (list : ℕ) (s : Sheet) : Type 0 where
  in_kind : Each InKind s.globals
  ruled : Each RuledRow s.rows
  refer : Each (Refers (row_types s)) s.rows
  laid : Each (LaidOut list (row_types s)) s.rows

kept : (list : ℕ) (s : Sheet) → sheet_rules list s ≡ accepted tt → Kept list s
kept list s h =
    let a = rules_apart list s h in
    record {
      in_kind = each_accepted one_line global_rule fits (first_global s) s.globals a.fields a.globals;
      ruled = each_accepted row_size row_rules (λ p x u k. rules_of x.fields p u k) (first_row s) s.rows a.ranged a.entries;
      refer = each_accepted row_size (row_references (row_types s)) (refers (row_types s)) (first_row s) s.rows a.named a.references;
      laid = each_accepted row_size (row_entity_rules list (row_types s)) (laid_out list (row_types s)) (first_row s) s.rows a.laid a.entities;
    }
  where
    fits : (p : ℕ) (x : ℕ × Item) (u : Unit {0}) → global_rule p x ≡ accepted u → InKind x
    fits p x u k = demand_accepted (global_fits x.0 (seen x.1)) Global p k

pub sheet-fits : (list : ℕ) (t : List ℕ) (s : Sheet) → list ≤ most_list → read_sheet t ≡ accepted s → sheet_rules list s ≡ accepted tt
    → Fits list (model_of s) × (sheet_of list (model_of s) ≡ s)
unfolding model_of sheet_of
sheet-fits list t s l h k =
    let w = (written_read t s h).formed in
    let r = kept list s k in (
      record {
        list_ok = l;
        some = w.ordered.some;
        starts = w.spelt.starts;
        rising = w.ordered.rising;
        globals = w.spelt.globals;
        in_kind = r.in_kind;
        entries = rows_fit list (row_types s) w.spelt.rows w.ordered.closed r.ruled r.refer r.laid;
        few = rw (length-map s.rows carried_of) w.spelt.few;
      },
      ap (λ (rs : List Row). record { starts = s.starts; globals = s.globals; rows = rs }) (rows_are list (row_types s) r.laid),
    )
