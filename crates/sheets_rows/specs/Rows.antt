-- The code's form: a sheet's lines taken as its entries: what the lines of one kind that stand first give, and the lines behind these;
-- the values behind an entry line, and the types of all entries.
use Rattle.std.specs.Prelude.{Bool, List, [], ◌∷◌, ◌++◌, ℕ, drop}
use Rattle.values.specs.Value.{Item}
use Rattle.sheets.specs.Sheet.{Line, start, global, entry, value, last, none, lines_in}

-- the lines of a text from a place on
abbrev pub lines_at : List ℕ → ℕ → List Line
lines_at t at = lines_in (drop at t)

-- ---- lines of one kind: each of them gives one thing, a line of another kind gives none

-- what a line gives before what those behind it give; a line that gives none ends them
abbrev pub onward : {A : Type 0} → List A → List A → List A
onward [] rest = []
onward (a ∷ more) rest = a ∷ rest

-- what the lines of the kind that stand first give
abbrev pub first_among : {A : Type 0} → (Line → List A) → List Line → List A
first_among gives [] = []
first_among gives (l ∷ ls) = onward (gives l) (first_among gives ls)

-- a line that gives something is passed over, one that gives none stops
abbrev pub past : {A : Type 0} → List A → List Line → List Line → List Line
past [] here rest = here
past (a ∷ more) here rest = rest

-- the lines behind those of the kind that stand first
abbrev pub behind_of : {A : Type 0} → (Line → List A) → List Line → List Line
behind_of gives [] = []
behind_of gives (l ∷ ls) = past (gives l) (l ∷ ls) (behind_of gives ls)

-- what all lines give, each with those behind it
abbrev pub all_of : {A : Type 0} → (Line → List Line → List A) → List Line → List A
all_of gives [] = []
all_of gives (l ∷ ls) = gives l ls ++ all_of gives ls

-- ---- values and types

-- a value line gives its value, and whether it is marked R
abbrev pub value_given : Line → List (Bool × Item)
value_given (start t) = []
value_given (global n v) = []
value_given (entry known n x label) = []
value_given (value reference v) = (reference, v) ∷ []
value_given (last n) = []
value_given (none b) = []

-- the values of the value lines that stand first
unfoldable pub values_first : List Line → List (Bool × Item)
values_first ls = first_among value_given ls

-- an entry line gives its type
abbrev pub type_given : Line → List Line → List ℕ
type_given (start t) ls = []
type_given (global n v) ls = []
type_given (entry known n x label) ls = x.entity.size ∷ []
type_given (value reference v) ls = []
type_given (last n) ls = []
type_given (none b) ls = []

-- the types of the entries in these lines
unfoldable pub types_in : List Line → List ℕ
types_in ls = all_of type_given ls
