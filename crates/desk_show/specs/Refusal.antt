-- The code's form: the line of a refusal, over its number.
use Rattle.std.specs.Prelude.{List, [], ◌∷◌, ◌++◌, ℕ}
use Rattle.columns.specs.Decimal.{dec}
use Rattle.columns.specs.Letters.{tab, newline, letter_x}

-- X, number, place, parted by tabs, then LF
unfoldable pub refusal_line : ℕ → ℕ → List ℕ
refusal_line number place = letter_x ∷ (tab ∷ (dec number ++ (tab ∷ (dec place ++ (newline ∷ [])))))
