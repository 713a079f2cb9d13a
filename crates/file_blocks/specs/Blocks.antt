-- The code's form: what a sheet's lines give to the canonical file: an entity's values and its P lines, the Global fields, and the lines
-- behind each.
use Rattle.std.specs.Prelude.{◌≡◌, Bool, true, false, List, [], ◌∷◌, ◌++◌, map, ℕ, ◌+◌, ◌^◌, ◌≤◌, length}
use Rattle.values.specs.Value.{Item, whole}
use Rattle.columns.specs.Columns.{joined}
use Rattle.columns.specs.Format.{text_columns, parameter_columns, most_integer}
use Rattle.columns.specs.Letters.{newline, letter_g}
use Rattle.records.specs.Flow.{flow, line_count, in_lines}
use Rattle.cards.specs.Written.{zeros, section}
use Rattle.sheets.specs.Sheet.{Line, start, global, entry, value, last, none}
use Rattle.model.specs.Model.{value_in}
use Rattle.model.specs.Canonical.{global_text, owned}
use Rattle.sheets_rows.specs.Rows.{lines_at, first_among, behind_of, value_given, values_first}

-- ---- the lines of a sheet from a place on

-- the lines behind the value lines that stand first
unfoldable pub behind_values : List Line → List Line
behind_values ls = behind_of value_given ls

-- whether a line begins as a value line does
abbrev pub begins : Line → Bool
begins (start t) = false
begins (global n v) = false
begins (entry known n x label) = false
begins (value reference v) = true
begins (last n) = false
begins (none b) = b

-- whether the first of these lines does
abbrev pub first_begins : List Line → Bool
first_begins [] = false
first_begins (l ∷ ls) = begins l

-- the line behind the value lines that stand first begins otherwise: what begins as a value line does is one
abbrev pub Unbroken : List Line → Type 0
Unbroken ls = first_begins (behind_values ls) ≡ false

-- the values of the value lines that stand first
abbrev pub items_first : List Line → List Item
items_first ls = map value_in (values_first ls)

-- those of a text from a place on
abbrev pub items_at : List ℕ → ℕ → List Item
items_at t at = items_first (lines_at t at)

-- a G line gives its field
abbrev pub global_given : Line → List (ℕ × Item)
global_given (start t) = []
global_given (global n v) = (n, v) ∷ []
global_given (entry known n x label) = []
global_given (value reference v) = []
global_given (last n) = []
global_given (none b) = []

-- the fields of the G lines that stand first
unfoldable pub globals_first : List Line → List (ℕ × Item)
globals_first ls = first_among global_given ls

-- those of a text from a place on
abbrev pub fields_at : List ℕ → ℕ → List (ℕ × Item)
fields_at t at = globals_first (lines_at t at)

-- the lines behind the G lines that stand first
unfoldable pub behind_globals : List Line → List Line
behind_globals ls = behind_of global_given ls

-- ---- the G record

-- the G lines of these fields
unfoldable pub global_bytes : List (ℕ × Item) → List ℕ
global_bytes gs = joined (section letter_g 1 (in_lines text_columns (global_text gs)))

-- ---- an entity's record

-- the type number and the values
abbrev pub record_text : ℕ → List Item → List ℕ
record_text typ vs = flow parameter_columns 0 (whole false typ ∷ vs)

-- its P lines with this directory number
abbrev pub block_lines : ℕ → ℕ → List Item → List (List ℕ)
block_lines number typ vs = map (owned number) (in_lines parameter_columns (record_text typ vs))

-- a file can have the P lines, from number `from` on, of the entity whose values stand from `at` on, and they can be laid at `base`
pub record BlockHasRoom (t : List ℕ) (at base typ number from : ℕ) : Type 0 where
  pub inside : at ≤ length t
  pub low : base ≤ 2 ^ 36
  pub small : typ ≤ most_integer
  pub room : length (record_text typ (items_at t at)) ≤ 2 ^ 36
  pub numbered : number ≤ 9999999
  pub few : from + line_count parameter_columns (length (record_text typ (items_at t at))) ≤ 9999999
  pub unbroken : Unbroken (lines_at t at)

-- ---- a line's last columns

-- its letter, its number, LF
unfoldable pub tail_of : ℕ → ℕ → List ℕ
tail_of b n = b ∷ (zeros n ++ (newline ∷ []))
