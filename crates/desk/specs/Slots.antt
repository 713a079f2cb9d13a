-- The lent table and the sheet tell the same: a slot has the fields of its entry's line.
use Rattle.std.specs.Prelude.{◌≡◌, Bool, List, [], ◌∷◌, map, ℕ}
use Rattle.columns.specs.Refusal.{accepted}
use Rattle.directory.specs.declared.Entry.{Entry}
use Rattle.directory.specs.Fields.{entry_of}
use Rattle.sheets.specs.Sheet.{Line, start, global, entry, value, last, none, lines_of}
use Rattle.model.specs.Model.{Model, sheet_of}
use Rattle.model.specs.Read.{read_model}
use Rattle.desk.specs.declared.Record.{Record}
use Rattle.desk.specs.Answers.{listed_in}

-- an entry line's fields: E (known) or U, the directory number, the numbers as the directory record has them, the label
pub record LineFields : Type 0 where
  pub known : Bool
  pub number : ℕ
  pub entry : Entry
  pub label : List ℕ

-- those in a slot
abbrev pub slot_fields : Record → LineFields
slot_fields r = record { known = r.known; number = r.number.0; entry = r.entry; label = r.label }

-- those of the entry lines among a sheet's lines
unfoldable pub entry_fields : List Line → List LineFields
entry_fields [] = []
entry_fields (start t ∷ ls) = entry_fields ls
entry_fields (global n v ∷ ls) = entry_fields ls
entry_fields (entry known n x label ∷ ls) =
    record { known = known; number = n.size; entry = entry_of x; label = label } ∷ entry_fields ls
entry_fields (value reference v ∷ ls) = entry_fields ls
entry_fields (last n ∷ ls) = entry_fields ls
entry_fields (none b ∷ ls) = entry_fields ls

-- ---- "one slot an entry with its entry line's fields"

-- a file that is accepted has a table, and its slots have the fields of its sheet's entry lines
abbrev pub SlotsOfSheet : Type 0
SlotsOfSheet = (list : ℕ) (f : List ℕ) (m : Model) → read_model list f ≡ accepted m
    → (rs : List Record) × ((listed_in list f ≡ accepted rs) × (map slot_fields rs ≡ entry_fields (lines_of (sheet_of list m))))

-- where there are records the file is accepted, and so it is
abbrev pub FilledFromSheet : Type 0
FilledFromSheet = (list : ℕ) (f : List ℕ) (rs : List Record) → listed_in list f ≡ accepted rs
    → (m : Model) × ((read_model list f ≡ accepted m) × (map slot_fields rs ≡ entry_fields (lines_of (sheet_of list m))))
