-- The code's form: the bytes of the parts of a sheet, each line with its LF.
use Rattle.std.specs.Prelude.{Bool, false, cond, List, [], ◌∷◌, ◌++◌, ℕ}
use Rattle.columns.specs.Letters.{newline}
use Rattle.values.specs.Value.{Item, is_default}
use Rattle.records.specs.Record.{Values, values, wrong}
use Rattle.directory.specs.declared.Fields.{Fields}
use Rattle.layouts.specs.Known.{known}
use Rattle.model.specs.Model.{type_of}
use Rattle.sheets.specs.Plain.{sized}
use Rattle.sheets.specs.Sheet.{start, global, entry, value, line_of}
use Rattle.read_entities.specs.Marks.{marks_begun, marked_from}

-- the start texts
unfoldable pub start_bytes : List (List ℕ) → List ℕ
start_bytes [] = []
start_bytes (t ∷ ts) = (line_of (start t) ++ (newline ∷ [])) ++ start_bytes ts

-- the Global fields with their numbers
unfoldable pub global_bytes : List (ℕ × Item) → List ℕ
global_bytes [] = []
global_bytes (g ∷ gs) = (line_of (global g.0 g.1) ++ (newline ∷ [])) ++ global_bytes gs

-- an entity's values, each with whether it is marked R
unfoldable pub value_bytes : List (Bool × Item) → List ℕ
value_bytes [] = []
value_bytes (v ∷ vs) = (line_of (value v.0 v.1) ++ (newline ∷ [])) ++ value_bytes vs

-- an entry with its directory number and its label, and its values, marked under the type list as the walk over them says
unfoldable pub entity_bytes : ℕ → List ℕ → ℕ → Fields → List ℕ → List Item → List ℕ
entity_bytes list types number x label vs =
    (line_of (entry (known list (type_of x) x.form.size) (sized false number) x label) ++ (newline ∷ []))
    ++ value_bytes (marked_from types (marks_begun list (type_of x) x.form.size) vs)

-- field n alone: a default has no line
unfoldable pub given_bytes : ℕ → Item → List ℕ
given_bytes n v = cond (is_default v) [] (line_of (global n v) ++ (newline ∷ []))

-- the values of a record; a refused one has none
abbrev pub values_in : Values → List Item
values_in (values vs end) = vs
values_in (wrong fault from at) = []
