-- How a record is written: its values in lines of w columns, as a text of which position p stands on line p / w.
use Rattle.std.specs.Prelude.{Bool, true, false, cond, List, [], ◌∷◌, ◌++◌, ℕ, zero, suc, ◌+◌, ◌-◌, ◌/◌, ◌%◌}
use Rattle.std.specs.Prelude.{length, replicate}
use Rattle.std.specs.Prelude.{take, drop, leb}
use Rattle.columns.specs.Decimal.{to_left}
use Rattle.columns.specs.Letters.{space, comma, semicolon}
use Rattle.values.specs.Value.{Item, default, whole, real, text, head, spelled, Fine, Printed}

-- how much of a value stands on one line: a number or default with its delimiter; of a string the count, H and the first character
unfoldable pub firm : Item → ℕ
firm default = 1
firm (whole neg size) = length (spelled (whole neg size)) + 1
firm (real neg m eneg e double) = length (spelled (real neg m eneg e double)) + 1
firm (text bs) = length (head (length bs)) + 1

-- the blanks to the line's end, if n characters have no room there
unfoldable pub gap : ℕ → ℕ → ℕ → ℕ
gap w p n = cond (leb (p % w + n) w) 0 (w - p % w)

-- ',' parts the values, ';' ends the record
abbrev pub delimiter : Bool → ℕ
delimiter last = cond last semicolon comma

-- a value at position p, with its delimiter
unfoldable pub piece : ℕ → ℕ → Item → Bool → List ℕ
piece w p v last = replicate (gap w p (firm v)) space ++ (spelled v ++ (delimiter last ∷ []))

-- whether no value is left: then the delimiter ends the record
abbrev pub none : List Item → Bool
none [] = true
none (v ∷ vs) = false

-- the values from position p on
unfoldable pub flow : ℕ → ℕ → List Item → List ℕ
flow w p [] = []
flow w p (v ∷ vs) = piece w p v (none vs) ++ flow w (p + length (piece w p v (none vs))) vs

-- the values that a record can hold, one at least
pub data Fines : List Item → Type 0 where
  fine_one : {v : Item} → Fine v → Fines (v ∷ [])
  fine_more : {v u : Item} {vs : List Item} → Fine v → Fines (u ∷ vs) → Fines (v ∷ (u ∷ vs))

-- whose strings are of bytes that a line may hold
abbrev pub Prints : List Item → Type 0
Prints [] = Unit {0}
Prints (v ∷ vs) = Printed v × Prints vs

-- ---- a text in lines

-- how many lines of w columns n characters take
unfoldable pub line_count : ℕ → ℕ → ℕ
line_count w n = (n + (w - 1)) / w

-- the first n lines of w columns of a text, the last filled with blanks
unfoldable pub cut : ℕ → ℕ → List ℕ → List (List ℕ)
cut w zero t = []
cut w (suc n) t = to_left w (take w t) ∷ cut w n (drop w t)

-- all lines of a text
unfoldable pub in_lines : ℕ → List ℕ → List (List ℕ)
in_lines w t = cut w (line_count w (length t)) t
