-- The slots of a file's table have the fields of its sheet's entry lines: the last pass carries an entry's numbers and label as its D lines tell them. Assumes nothing.
use mathlib.Core.Path.{◌≡◌, refl, sym, ap, ◌∙◌}
use mathlib.Core.Bool.{Bool}
use mathlib.Core.List.{List, [], ◌∷◌, map}
use Prim.Native.Nat.{ℕ, ◌+◌, ◌*◌}
use Rattle.columns.specs.Refusal.{accepted, each_at}
use Rattle.columns.proofs.Outcomes.{then_accepted}
use Rattle.columns.proofs.Stops.{Accepts, done, next, all_accepted}
use Rattle.values.specs.Value.{Item}
use Rattle.records.specs.Record.{Values, values_at}
use Rattle.cards.specs.declared.Counts.{Counts}
use Rattle.directory.specs.declared.Fields.{Fields}
use Rattle.directory.specs.Fields.{entry_of}
use Rattle.layouts.specs.Known.{known}
use Rattle.sheets.specs.Sheet.{Line, start_lines, global_lines, value_lines, row_lines, lines_of}
use Rattle.model.specs.Model.{Carried, Model, type_of, row_of, sheet_of}
use Rattle.model.specs.Read.{Listed, Before, GlobalRead, two, by_parameters, parameters_of, entity_in, last_pass, before, read_model}
use Rattle.model.proofs.ReadApart.{entity_apart, read_apart}
use Rattle.desk.specs.Answers.{records_from, listed_in}
use Rattle.desk.specs.Slots.{LineFields, slot_fields, entry_fields, SlotsOfSheet, FilledFromSheet}

-- ---- lines that are no entry lines have none of the fields

past-starts : (ts : List (List ℕ)) (ls : List Line) → entry_fields (start_lines ts ls) ≡ entry_fields ls
unfolding start_lines entry_fields
past-starts [] ls = refl
past-starts (t ∷ ts) ls = past-starts ts ls

past-globals : (gs : List (ℕ × Item)) (ls : List Line) → entry_fields (global_lines gs ls) ≡ entry_fields ls
unfolding global_lines entry_fields
past-globals [] ls = refl
past-globals (g ∷ gs) ls = past-globals gs ls

past_values : (vs : List (Bool × Item)) (ls : List Line) → entry_fields (value_lines vs ls) ≡ entry_fields ls
unfolding value_lines entry_fields
past_values [] ls = refl
past_values (v ∷ vs) ls = past_values vs ls

-- ---- what the last pass carries

-- an entry's numbers and label
record Keeps (e : Listed) (y : Carried) : Type 0 where
  fields : y.fields ≡ e.fields
  label : y.label ≡ e.label

parameters_keep : (list : ℕ) (types : List ℕ) (p : ℕ) (e : Listed) (vals : Values) (y : Carried) → by_parameters list types p e vals ≡ accepted y → Keeps e y
parameters_keep list types p e vals y h =
    let a = entity_apart list types p e vals y h in
    record { fields = ap (λ (x : Carried). x.fields) a.is; label = ap (λ (x : Carried). x.label) a.is }

-- ---- entry by entry

-- the fields of the line of an entry with these numbers and this label
abbrev on_line : ℕ → ℕ → Fields → List ℕ → LineFields
on_line list k x label = record { known = known list (type_of x) x.form.size; number = 2 * k + 1; entry = entry_of x; label = label }

row_first : (list : ℕ) (k : ℕ) (y : Carried) (ys : List Carried)
    → entry_fields (row_lines k (map (row_of list) (y ∷ ys))) ≡ on_line list k y.fields y.label ∷ entry_fields (row_lines (k + 1) (map (row_of list) ys))
unfolding row_lines row_of entry_fields
row_first list k y ys = ap (λ (l : List LineFields). on_line list k y.fields y.label ∷ l) (past_values _ _)

module _ (list : ℕ) (f : List ℕ) (c : Counts) (g : GlobalRead) (ts : List ℕ) where
  rows_accepted : {p : ℕ} {es : List Listed} {ys : List Carried} (k : ℕ) → Accepts two (entity_in list f c g ts) p es ys
      → map slot_fields (records_from list k es) ≡ entry_fields (row_lines k (map (row_of list) ys))
  unfolding entity_in records_from entry_fields row_lines
  rows_accepted k done = refl
  rows_accepted k (next {p = p} {x = e} {xs = es} {y = y} {ys = ys} h s) =
      let kept = parameters_keep list ts p e (values_at 64 g.parameter g.record_end (parameters_of f c e) 0) y h in
      rw (row_first list k y ys, kept.fields, kept.label) (ap (λ (l : List LineFields). on_line list k e.fields e.label ∷ l) (rows_accepted (k + 1) s))

  slots-rows : (es : List Listed) (ys : List Carried) (p k : ℕ) → each_at two (entity_in list f c g ts) p es ≡ accepted ys
      → map slot_fields (records_from list k es) ≡ entry_fields (row_lines k (map (row_of list) ys))
  slots-rows es ys p k h = rows_accepted k (all_accepted two (entity_in list f c g ts) p es ys h)

-- ---- the file

sheet_fields : (list : ℕ) (m : Model) → entry_fields (lines_of (sheet_of list m)) ≡ entry_fields (row_lines 0 (map (row_of list) m.entries))
unfolding sheet_of lines_of
sheet_fields list m = past-starts m.starts _ ∙ past-globals m.globals _

listed_are : (list : ℕ) (f : List ℕ) (m : Model) (b : Before) → read_model list f ≡ accepted m → before f ≡ accepted b → listed_in list f ≡ accepted (records_from list 0 b.listed)
unfolding listed_in
listed_are list f m b h e = rw (h, e)

pub slots_of_sheet : SlotsOfSheet
unfolding last_pass
slots_of_sheet list f m h =
    let a = read_apart list f m h in
    let b = a.whole in
    let q : a.carried ≡ m.entries = sym (ap (λ (x : Model). x.entries) a.is) in (
      records_from list 0 b.listed,
      (
        listed_are list f m b h a.told,
        slots-rows list f b.counts b.global _ b.listed m.entries _ 0 (a.passes ∙ ap accepted q) ∙ sym (sheet_fields list m),
      ),
    )

pub filled_from_sheet : FilledFromSheet
unfolding listed_in
filled_from_sheet list f rs h =
    let m = then_accepted (read_model list f) _ rs h in
    let t = slots_of_sheet list f m.value m.first in
    let k = t.1.0 in
    let q : rs ≡ t.0 = cc in
    (m.value, (m.first, ap (map slot_fields) q ∙ t.1.1))
