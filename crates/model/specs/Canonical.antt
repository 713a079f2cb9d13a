-- The canonical file of a model.
use Rattle.std.specs.Prelude.{true, false, List, [], ◌∷◌, ◌++◌, map, ℕ, suc, ◌+◌, ◌-◌, length, replicate}
use Rattle.columns.specs.Decimal.{dec, padded, to_left}
use Rattle.columns.specs.Format.{text_columns, parameter_columns, number_columns, opening_columns}
use Rattle.columns.specs.Letters.{space}
use Rattle.values.specs.Value.{Item, default, whole}
use Rattle.records.specs.Flow.{flow, in_lines}
use Rattle.records.specs.Global.{first_field, canonical_opening}
use Rattle.directory.specs.Lines.{entry_lines}
use Rattle.cards.specs.Written.{file_of}
use Rattle.model.specs.Model.{Carried, Model, type_of}

-- ---- S

-- one S line for each start text
unfoldable pub start_lines : Model → List (List ℕ)
start_lines m = map (to_left text_columns) m.starts

-- ---- G

-- the fields from number n on up to the last given one, defaults where none is given
unfoldable pub filled : ℕ → List (ℕ × Item) → List Item
filled n [] = []
filled n (g ∷ gs) = replicate (g.0 - n) default ++ (g.1 ∷ filled (suc g.0) gs)

-- the opening and the fields
unfoldable pub global_text : List (ℕ × Item) → List ℕ
global_text [] = canonical_opening true
global_text (g ∷ gs) = canonical_opening false ++ flow text_columns opening_columns (filled first_field (g ∷ gs))

-- as many G lines as the record takes
unfoldable pub global_lines : Model → List (List ℕ)
global_lines m = in_lines text_columns (global_text m.globals)

-- ---- P

-- the record of an entry: its type number and its values
unfoldable pub parameter_text : Carried → List ℕ
parameter_text e = flow parameter_columns 0 (whole false (type_of e.fields) ∷ e.values)

-- a P line: 64 columns of the record, column 65 blank, the directory number in 66-72
abbrev pub owned : ℕ → List ℕ → List ℕ
owned n t = t ++ (space ∷ padded number_columns (dec n))

-- the P lines of an entry with this directory number
unfoldable pub block_of : ℕ → Carried → List (List ℕ)
block_of n e = map (owned n) (in_lines parameter_columns (parameter_text e))

-- ---- D and P, entry by entry: n is the directory number, from the number of the next P line. Blocks follow directory order

-- two D lines for each entry, with the number of its first P line and how many it has
unfoldable pub directory_lines : ℕ → ℕ → List Carried → List (List ℕ)
directory_lines n from [] = []
directory_lines n from (e ∷ es) =
    let count = length (block_of n e) in
    entry_lines e.fields from count e.label ++ directory_lines (n + 2) (from + count) es

-- the P lines of all entries
unfoldable pub parameter_lines : ℕ → List Carried → List (List ℕ)
parameter_lines n [] = []
parameter_lines n (e ∷ es) = block_of n e ++ parameter_lines (n + 2) es

-- ---- the file

-- how many lines the file has, its T line among them
unfoldable pub line_total : Model → ℕ
line_total m =
    length (start_lines m) + length (global_lines m) + length (directory_lines 1 1 m.entries) + length (parameter_lines 1 m.entries) + 1

-- S, G, D, P and T
unfoldable pub canonical : Model → List ℕ
canonical m = file_of (start_lines m) (global_lines m) (directory_lines 1 1 m.entries) (parameter_lines 1 m.entries)
