-- The code's form: the paper's rows as one table, row after row, each with its two groups and its rest.
use Rattle.std.specs.Prelude.{List, [], ◌∷◌, ◌++◌, ℕ, ◌+◌, length, get_or}
use Rattle.layouts.specs.declared.Kind.TheVariants.{Rest}
use Rattle.layouts.specs.declared.LayoutPlace.{LayoutPlace}
use Rattle.layouts.specs.Layout.{Row, one, paper, groups}

-- after the layout: its groups; nothing but defaults follows
abbrev pub tail : List LayoutPlace
tail = groups ++ (one Rest ∷ [])

-- all places, row after row
abbrev pub flat : List Row → List LayoutPlace
flat [] = []
flat (r ∷ rs) = (r.places ++ tail) ++ flat rs

-- all of them
unfoldable pub table : List LayoutPlace
table = flat paper

-- where the places of each row start
abbrev pub starts : ℕ → List Row → List ℕ
starts n [] = []
starts n (r ∷ rs) = n ∷ starts (n + length (r.places ++ tail)) rs

-- where those of a bit start
unfoldable pub start_of : ℕ → ℕ
start_of bit = get_or (starts 0 paper) bit 0

-- the place at i; past the table all is rest
unfoldable pub place_at : ℕ → LayoutPlace
place_at i = get_or table i (one Rest)
