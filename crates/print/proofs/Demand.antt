-- What the code writes of a file that reading accepts is the sheet of its model. Assumes nothing.
use mathlib.Core.Path.{◌≡◌, refl, sym, ap, ap₂, ◌∙◌}
use mathlib.Core.Bool.{Bool}
use mathlib.Core.List.{List, [], ◌∷◌, ◌++◌, map}
use Prim.Native.Nat.{ℕ, ◌+◌}
use native.Mathlib.Omega.{arith}
use lib.ListN.{length, length-map}
use Rattle.columns.specs.First.{up_from}
use Rattle.columns.specs.Refusal.{accepted, each_at}
use Rattle.columns.proofs.First.{length_up_from}
use Rattle.cards.specs.declared.Counts.{Counts}
use Rattle.cards.specs.Cards.{first_d, first_p, entries}
use Rattle.directory.specs.Naming.{types_at, type_of_entry}
use Rattle.sheets.specs.Sheet.{last, line_of, sheet_text}
use Rattle.sheets.specs.WellFormed.{Each}
use Rattle.sheets.proofs.Each.{each_makes}
use Rattle.model.specs.Model.{Carried, types_of, sheet_of}
use Rattle.model.specs.Read.{GlobalRead, Listed, starts_in, global_text, two, entity_in, entries_in, first_entry, listed_type, last_pass, model_with}
use Rattle.model.proofs.Types.{types-listed}
use Rattle.read_entities.proofs.Entries.{entity_keeps, last_carries}
use Rattle.print.specs.Bytes.{start_bytes, global_bytes}
use Rattle.print.specs.Rows.{rows_bytes}
use Rattle.print.specs.Whole.{field_bytes, whole_bytes, entries_bytes}
use Rattle.print.proofs.Wholes.{Kept, sheet-parts}
use Rattle.print.proofs.Listed.{carried_as, Roomy, rows-listed}

module _ (list : ℕ) (f : List ℕ) (k : Counts) (g : GlobalRead) where
  abbrev pub carried_it : Listed → Carried
  carried_it e = carried_as list f (first_d k) (entries k) (first_p k) g.parameter g.record_end e

  -- the entries that the last pass accepts keep to their layouts
  each_kept : (types : List ℕ) (es : List Listed) (place : ℕ) (cs : List Carried) → each_at two (entity_in list f k g types) place es ≡ accepted cs → Each (Kept list types) cs
  each_kept types es place cs h = each_makes two (entity_in list f k g types) (entity_keeps list f k g types) place es cs h

  types-kept : (es : List Listed) → types_of (map carried_it es) ≡ map listed_type es
  types-kept [] = refl
  types-kept (e ∷ es) = ap (λ (l : List ℕ). listed_type e ∷ l) (types-kept es)

  pub whole_sheet : (es : List Listed) (cs : List Carried) (from : ℕ) (ended : Bool) → entries_in f k ≡ accepted es → last_pass list f k g es ≡ accepted cs
      → Roomy list f (first_d k) (entries k) (first_p k) g.parameter g.record_end es
      → field_bytes g.parameter g.record_end (global_text f k) from ended ≡ global_bytes g.fields
      → whole_bytes list f k.s k.g (entries k) (first_p k) g.parameter g.record_end from ended ≡ sheet_text (sheet_of list (model_with f k g cs))
  unfolding whole_bytes entries_in last_pass starts_in types_at
  whole_sheet es cs from ended he hp room hf =
      let n : ℕ = entries k in
      let types : List ℕ = types_at f (first_d k) n in
      let ec : cs ≡ map carried_it es = last_carries list f k g es cs hp in
      let et : map listed_type es ≡ types = types-listed f k es he in
      let em : types_of cs ≡ map listed_type es = ap types_of ec ∙ types-kept es in
      let ey : types_of cs ≡ types = em ∙ et in
      let el : length cs ≡ n = ap length ec ∙ length-map es carried_it ∙ sym (length-map es listed_type) ∙ ap length et ∙ length-map (up_from 0 n) (type_of_entry f (first_d k)) ∙ length_up_from n 0 in
      let er : rows_bytes list f (first_d k) n (first_p k) g.parameter g.record_end 0 n ≡ entries_bytes list types 0 (map carried_it es)
      = rows-listed list f (first_d k) n (first_p k) g.parameter g.record_end n 0 (first_entry k) es he room in
      let eb : rows_bytes list f (first_d k) n (first_p k) g.parameter g.record_end 0 n ≡ entries_bytes list (types_of cs) 0 cs
      = er ∙ ap₂ (λ (t : List ℕ) (l : List Carried). entries_bytes list t 0 l) (sym ey) (sym ec) in
      let en : n ≡ 0 + length cs = omega arith in
      ap₂ (λ (x y : List ℕ). start_bytes (starts_in f k) ++ (x ++ y)) hf
      (ap₂ (λ (x : List ℕ) (j : ℕ). x ++ (line_of (last j) ++ (10 ∷ []))) eb en)
      ∙ sym (sheet-parts list (model_with f k g cs) (rw em (each_kept (map listed_type es) es (first_entry k) cs hp)))
