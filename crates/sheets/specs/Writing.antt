-- The code's form: of a line with a value first what stands before a string's characters; and how long an entry line is.
use Rattle.std.specs.Prelude.{Bool, false, cond, List, ◌∷◌, ◌++◌, ℕ, ◌+◌, length}
use Rattle.columns.specs.Decimal.{dec}
use Rattle.columns.specs.Letters.{tab, letter_g, letter_r, letter_v}
use Rattle.directory.specs.declared.Fields.{Fields}
use Rattle.directory.specs.Fields.{in_order}
use Rattle.values.specs.declared.Value.{Value}
use Rattle.values.specs.Writing.{front}
use Rattle.sheets.specs.Plain.{sized}
use Rattle.sheets.specs.Line.{number_count, spells}

-- G, field number, and the value up to a string's characters
unfoldable pub global_head : ℕ → Value → List ℕ
global_head n v = letter_g ∷ (tab ∷ (dec n ++ (tab ∷ front v)))

-- R or V, and the value up to a string's characters
unfoldable pub value_head : Bool → Value → List ℕ
value_head reference v = cond reference letter_r letter_v ∷ (tab ∷ front v)

-- the bytes of an entry line with its LF, whose label has so many: mark, tab and LF are three
unfoldable pub entry_length : ℕ → Fields → ℕ → ℕ
entry_length n x label = length (spells number_count (sized false n ∷ in_order x)) + label + 3
