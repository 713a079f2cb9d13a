-- The whole sheet: its parts one after the other, and a model's sheet by its parts. Assumes nothing.
use mathlib.Core.Path.{◌≡◌, sym, ap, ◌∙◌}
use mathlib.Core.Bool.{Bool, true, false}
use mathlib.Core.List.{List, [], ◌∷◌, ◌++◌, map, append_assoc}
use Prim.Native.Nat.{ℕ, ◌+◌, ◌*◌, ◌^◌, ◌≤◌}
use native.Mathlib.Nat.{add-zero}
use native.Mathlib.Omega.{arith}
use lib.ListN.{length}
use Rattle.columns.specs.Columns.{text_of}
use Rattle.columns.specs.First.{up_from}
use Rattle.columns.specs.Laid.{Wrote}
use Rattle.columns.proofs.Writes.{then, wrote_none, wrote_length}
use Rattle.values.specs.Value.{Item}
use Rattle.records.specs.Record.{values_at}
use Rattle.records.specs.Reading.{Stands}
use Rattle.records.specs.Global.{first_field}
use Rattle.sheets.specs.Plain.{sized}
use Rattle.sheets.specs.Sheet.{entry, last, line_of, value_lines, row_lines, lines_of, sheet_text, text_of as sheet_bytes}
use Rattle.sheets.specs.WellFormed.{Each, none, one}
use Rattle.layouts.specs.Known.{known}
use Rattle.layouts.specs.Fits.{Keeps}
use Rattle.model.specs.Model.{Carried, Model, type_of, entity_of, types_of, row_of, sheet_of}
use Rattle.model.specs.Read.{start_text, given}
use Rattle.read_entities.specs.Marks.{marks_begun, marked_from}
use Rattle.read_entities.proofs.Marking.{marked-begin}
use Rattle.print.specs.Bytes.{start_bytes, global_bytes, value_bytes, values_in, entity_bytes}
use Rattle.print.specs.Rows.{rows_bytes}
use Rattle.print.specs.Whole.{field_bytes, whole_bytes, entries_bytes}
use Rattle.print.proofs.Valued.{value-lines}
use Rattle.print.proofs.Started.{start-lines}
use Rattle.print.proofs.Given.{global_lines_lem}

module _ (c d : ℕ) (t : List ℕ) (from : ℕ) {ended : Bool} where
  pub fields_none : {o : List ℕ} {at : ℕ} → ended ≡ true → Wrote o at (field_bytes c d t from ended) o at
  unfolding field_bytes
  fields_none h = rw h wrote_none

  pub fields_some : {o o' : List ℕ} {at r : ℕ} → ended ≡ false → Wrote o at (global_bytes (given first_field (values_in (values_at 72 c d t from)))) o' r → Wrote o at (field_bytes c d t from ended) o' r
  unfolding field_bytes
  fields_some h p = rw h p

pub stands_global : (f : List ℕ) (s g n : ℕ) → length f ≤ 16200000 → 81 * (s + g + 2 * n) ≤ length f → Stands f (81 * s) 72 g
stands_global f s g n h k = record { wide = omega arith; narrow = omega arith; size = h; inside = omega arith }

pub whole : {o o₁ o₂ o₃ : List ℕ} {at r₁ r₂ r₃ : ℕ} (list : ℕ) (f : List ℕ) (s g n parameters c d from : ℕ) (ended : Bool)
    → Wrote o at (start_bytes (map (start_text f) (up_from 0 s))) o₁ r₁ → Wrote o₁ r₁ (field_bytes c d (text_of f (81 * s) 72 g) from ended) o₂ r₂
    → Wrote o₂ r₂ (rows_bytes list f (s + g) n parameters c d 0 n ++ (line_of (last n) ++ (10 ∷ []))) o₃ r₃
    → Wrote o at (whole_bytes list f s g n parameters c d from ended) o₃ r₃
unfolding whole_bytes
whole list f s g n parameters c d from ended p q r = then p (then q r)

pub whole_bound : (f : List ℕ) (s g n at a b r : ℕ) → length f ≤ 16200000 → 81 * (s + g + 2 * n) ≤ length f → a ≤ at + 75 * s → b ≤ a + 79200 * g → r ≤ b + 15000000000 * n + 23
    → r ≤ at + 2 ^ 52
whole_bound f s g n at a b r h k p q e =
    let m : s + g + 2 * n ≤ 200000 = omega arith in
    small_sum s g n at a b r m p q e
  where
    small_sum : (s g n at a b r : ℕ) → s + g + 2 * n ≤ 200000 → a ≤ at + 75 * s → b ≤ a + 79200 * g → r ≤ b + 15000000000 * n + 23 → r ≤ at + 2 ^ 52
    small_sum s g n at a b r m p q e = omega arith

pub ruleset wholes = (whole_bound, fields_none, fields_some, stands_global, whole, wrote_length)

-- ---- a model's sheet

-- each of its entities keeps to its layout, if the list knows it
abbrev pub Kept : ℕ → List ℕ → Carried → Type 0
Kept list types e = known list (type_of e.fields) e.fields.form.size ≡ true → Keeps types (entity_of e.fields e.values)

-- the lines of its entries
row-lines : (list : ℕ) (types : List ℕ) (k : ℕ) {es : List Carried} → Each (Kept list types) es
    → sheet_bytes (row_lines k (map (row_of list) es)) ≡ entries_bytes list types k es ++ (line_of (last (k + length es)) ++ (10 ∷ []))
unfolding sheet_bytes row_lines entries_bytes entity_bytes row_of
row-lines list types k none = rw add-zero
row-lines list types k (one {x = e} {xs = es} h hs) =
    let l : List ℕ = line_of (entry (known list (type_of e.fields) e.fields.form.size) (sized false (2 * k + 1)) e.fields e.label) in
    let ws : List (Bool × Item) = marked_from types (marks_begun list (type_of e.fields) e.fields.form.size) e.values in
    let z : List ℕ = line_of (last (k + length (e ∷ es))) ++ (10 ∷ []) in
    let en : k + 1 + length es ≡ k + length (e ∷ es) = omega arith in
    ap (λ (vs : List (Bool × Item)). l ++ (10 ∷ sheet_bytes (value_lines vs (row_lines (k + 1) (map (row_of list) es))))) (marked-begin types list (type_of e.fields) e.fields.form.size e.values h)
    ∙ ap (λ (x : List ℕ). l ++ (10 ∷ x)) (value-lines ws (row_lines (k + 1) (map (row_of list) es)))
    ∙ ap (λ (x : List ℕ). l ++ (10 ∷ (value_bytes ws ++ x))) (row-lines list types (k + 1) hs ∙ ap (λ (j : ℕ). entries_bytes list types (k + 1) es ++ (line_of (last j) ++ (10 ∷ []))) en)
    ∙ sym (append_assoc l (10 ∷ []) (value_bytes ws ++ (entries_bytes list types (k + 1) es ++ z)))
    ∙ sym (append_assoc (l ++ (10 ∷ [])) (value_bytes ws) (entries_bytes list types (k + 1) es ++ z))
    ∙ sym (append_assoc ((l ++ (10 ∷ [])) ++ value_bytes ws) (entries_bytes list types (k + 1) es) z)

-- all of it
pub sheet-parts : (list : ℕ) (m : Model) → Each (Kept list (types_of m.entries)) m.entries
    → sheet_text (sheet_of list m) ≡ start_bytes m.starts ++ (global_bytes m.globals ++ (entries_bytes list (types_of m.entries) 0 m.entries ++ (line_of (last (0 + length m.entries)) ++ (10 ∷ []))))
unfolding sheet_text lines_of sheet_of
sheet-parts list m h =
    start-lines m.starts _
    ∙ ap (λ (x : List ℕ). start_bytes m.starts ++ x) (global_lines_lem m.globals _ ∙ ap (λ (x : List ℕ). global_bytes m.globals ++ x) (row-lines list (types_of m.entries) 0 h))
