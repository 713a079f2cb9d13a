-- Writing a sheet: its refusals in the paper's order, its model, its canonical file.
use Rattle.std.specs.Prelude.{Bool, true, false, not, ◌&&◌, List, [], ◌∷◌, map, ℕ, ◌+◌, length, leb}
use Rattle.columns.specs.declared.Fault.TheVariants.{ListOrLength, Global, Mark, TooLong}
use Rattle.columns.specs.Refusal.{Outcome, accepted, demand, each_at, ◌then◌}
use Rattle.columns.specs.Format.{most_lines, most_list}
use Rattle.values.specs.Value.{Item, seen}
use Rattle.records.specs.Global.{global_fits}
use Rattle.directory.specs.Rules.{entry_rules, reference_rule}
use Rattle.layouts.specs.Known.{known}
use Rattle.layouts.specs.Entities.{Entity, entity_check, marks}
use Rattle.sheets.specs.Sheet.{Row, Sheet}
use Rattle.sheets.specs.Order.{read_sheet}
use Rattle.model.specs.Model.{Model, types_of, entity_of, value_in, mark_in, model_of}
use Rattle.model.specs.Canonical.{line_total, canonical}

-- ---- where lines stand: a G line takes one, an entry one and its values'

-- a G line
abbrev pub one : {A : Type 0} → A → ℕ
one x = 1

-- an entry line and its value lines
abbrev pub row_size : Row → ℕ
row_size r = 1 + length r.values

-- the place of the first G line
abbrev pub first_global : Sheet → ℕ
first_global s = length s.starts + 1

-- the place of the first entry line
abbrev pub first_row : Sheet → ℕ
first_row s = length s.starts + length s.globals + 1

-- ---- 8; each entry 9, 13; all 10; each entry 14, 15, 18. The place is the G line or the entry line

-- 8
abbrev pub global_rule : ℕ → ℕ × Item → Outcome (Unit {0})
global_rule place g = demand (global_fits g.0 (seen g.1)) Global place

-- 9, 13
abbrev pub row_rules : ℕ → Row → Outcome (Unit {0})
row_rules place r = entry_rules r.fields place

-- 10
abbrev pub row_references : List ℕ → ℕ → Row → Outcome (Unit {0})
row_references types place r = reference_rule types r.fields place

-- an entry as the layouts see it
abbrev pub row_entity : Row → Entity
row_entity r = entity_of r.fields (map value_in r.values)

-- two marks are the same
abbrev pub equal : Bool → Bool → Bool
equal true b = b
equal false b = not b

-- all marks are the same
abbrev pub all_equal : List Bool → List Bool → Bool
all_equal [] [] = true
all_equal [] (b ∷ bs) = false
all_equal (a ∷ xs) [] = false
all_equal (a ∷ xs) (b ∷ bs) = equal a b && all_equal xs bs

-- E if the list knows the entity, R where it reads a reference
abbrev pub marks_right : ℕ → Row → Bool
marks_right list r =
    equal r.known (known list (row_entity r).typ (row_entity r).form) && all_equal (map mark_in r.values) (marks list (row_entity r))

-- 14, 15, then 18
abbrev pub row_entity_rules : ℕ → List ℕ → ℕ → Row → Outcome (Unit {0})
row_entity_rules list types place r = entity_check list types (row_entity r) place then λ _. demand (marks_right list r) Mark place

-- the types of all entries
abbrev pub row_types : Sheet → List ℕ
row_types s = types_of (model_of s).entries

-- 8; each entry 9, 13; all 10; each entry 14, 15, 18
unfoldable pub sheet_rules : ℕ → Sheet → Outcome (Unit {0})
sheet_rules list s =
    each_at one global_rule (first_global s) s.globals
    then λ _. each_at row_size row_rules (first_row s) s.rows
    then λ _. each_at row_size (row_references (row_types s)) (first_row s) s.rows
    then λ _. each_at row_size (row_entity_rules list (row_types s)) (first_row s) s.rows
    then λ _. accepted tt

-- ---- the sheet: 1 (list only); 17; 8; each entry 9, 13; all 10; each entry 14, 15, 18; 19

-- the model of a sheet, or its first refusal
unfoldable pub write_model : ℕ → List ℕ → Outcome Model
write_model list t =
    demand (leb list most_list) ListOrLength 0
    then λ _. read_sheet t
    then λ s. sheet_rules list s
    then λ _. accepted (model_of s)

-- the canonical file of a sheet, or its first refusal
unfoldable pub writes : ℕ → List ℕ → Outcome (List ℕ)
writes list t = write_model list t then λ m. demand (leb (line_total m) most_lines) TooLong 0 then λ _. accepted (canonical m)
