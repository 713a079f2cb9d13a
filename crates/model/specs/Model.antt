-- The model: what a file and a sheet carry alike. Nothing in it knows of the type list; a list only marks its sheet.
use Rattle.std.specs.Prelude.{Bool, List, [], ◌∷◌, map, ℕ}
use Rattle.values.specs.Value.{Item}
use Rattle.directory.specs.declared.Fields.{Fields}
use Rattle.layouts.specs.Entities.{Entity, marks}
use Rattle.layouts.specs.Known.{known}
use Rattle.sheets.specs.Sheet.{Row, Sheet, row}

-- an entry: its numbers, its label, and its values after the type number without trailing defaults
pub record Carried : Type 0 where
  pub fields : Fields
  pub label : List ℕ
  pub values : List Item

-- the start texts without trailing blanks, the Global fields that aren't default with their numbers, the entries in directory order
pub record Model : Type 0 where
  pub starts : List (List ℕ)
  pub globals : List (ℕ × Item)
  pub entries : List Carried

-- an entry's type
abbrev pub type_of : Fields → ℕ
type_of x = x.entity.size

-- as the layouts see it
abbrev pub entity_of : Fields → List Item → Entity
entity_of x vs = record { typ = type_of x; form = x.form.size; values = vs }

-- an entry's numbers
abbrev pub fields_in : Carried → Fields
fields_in e = e.fields

-- the types of all entries: what a reference names is told by them
abbrev pub types_of : List Carried → List ℕ
types_of es = map type_of (map fields_in es)

-- ---- the sheet of a model under a list: E or U for each entry, R or V for each value

-- values with their marks
unfoldable pub marked : List Bool → List Item → List (Bool × Item)
marked [] vs = []
marked (b ∷ bs) [] = []
marked (b ∷ bs) (v ∷ vs) = (b, v) ∷ marked bs vs

-- E if the list knows the entity; R where it reads a reference
unfoldable pub row_of : ℕ → Carried → Row
row_of list e =
    row (known list (type_of e.fields) e.fields.form.size) e.fields e.label
    (marked (marks list (entity_of e.fields e.values)) e.values)

-- what the sheet of a model carries
unfoldable pub sheet_of : ℕ → Model → Sheet
sheet_of list m = record { starts = m.starts; globals = m.globals; rows = map (row_of list) m.entries }

-- ---- the model of a sheet: the marks are left out

-- a value without its mark
abbrev pub value_in : Bool × Item → Item
value_in v = v.1

-- the mark of a value
abbrev pub mark_in : Bool × Item → Bool
mark_in v = v.0

-- an entry without marks
abbrev pub carried_of : Row → Carried
carried_of r = record { fields = r.fields; label = r.label; values = map value_in r.values }

-- what a sheet carries but for the marks
unfoldable pub model_of : Sheet → Model
model_of s = record { starts = s.starts; globals = s.globals; entries = map carried_of s.rows }
