-- A file that is put together: 72 columns, the section's letter, the number in its section with leading zeros, LF; the T line last.
use Rattle.std.specs.Prelude.{ℕ, ◌+◌, ◌-◌, ◌*◌, ◌≡◌, true, List, [], ◌∷◌, ◌++◌, length, replicate}
use Rattle.columns.specs.Columns.{printable, joined}
use Rattle.columns.specs.Decimal.{zero_filled}
use Rattle.columns.specs.Format.{text_columns, field_columns, number_columns}
use Rattle.columns.specs.Letters.{newline, space, letter_d, letter_g, letter_p, letter_s, letter_t}
use Rattle.cards.specs.declared.Counts.{Counts}
use Rattle.cards.specs.Cards.{counts}

-- the 72 columns of a line
pub record Body (x : List ℕ) : Type 0 where
  pub wide : length x ≡ text_columns
  pub good : printable x ≡ true

-- all of a list are such
pub data All (P : List ℕ → Type 0) : List (List ℕ) → Type 0 where
  none : All P []
  one : {x : List ℕ} {xs : List (List ℕ)} → P x → All P xs → All P (x ∷ xs)

-- the columns of several lines
abbrev pub Bodies : List (List ℕ) → Type 0
Bodies = All Body

-- n in seven columns
unfoldable pub zeros : ℕ → List ℕ
zeros n = zero_filled number_columns n

-- a line of these columns, this letter and this number
unfoldable pub line_of : List ℕ → ℕ → ℕ → List ℕ
line_of body b n = (body ++ (b ∷ zeros n)) ++ (newline ∷ [])

-- a section's lines, the first of them with number n
unfoldable pub section : ℕ → ℕ → List (List ℕ) → List (List ℕ)
section b n [] = []
section b n (x ∷ xs) = line_of x b n ∷ section b (n + 1) xs

-- the columns of T
unfoldable pub totals_of : Counts → List ℕ
totals_of c =
    (letter_s ∷ zeros c.s)
    ++ ((letter_g ∷ zeros c.g)
    ++ ((letter_d ∷ zeros c.d) ++ ((letter_p ∷ zeros c.p) ++ replicate (text_columns - 4 * field_columns) space)))

-- the counts of a file with these S, G, D and P lines
abbrev pub counts_of : List (List ℕ) → List (List ℕ) → List (List ℕ) → List (List ℕ) → Counts
counts_of S G D P = counts (length S) (length G) (length D) (length P) 1

-- all its lines
unfoldable pub file_lines : List (List ℕ) → List (List ℕ) → List (List ℕ) → List (List ℕ) → List (List ℕ)
file_lines S G D P =
    section letter_s 1 S ++ (section letter_g 1 G
    ++ (section letter_d 1 D ++ (section letter_p 1 P ++ (line_of (totals_of (counts_of S G D P)) letter_t 1 ∷ []))))

-- the file, given the columns of its S, G, D and P lines
unfoldable pub file_of : List (List ℕ) → List (List ℕ) → List (List ℕ) → List (List ℕ) → List ℕ
file_of S G D P = joined (file_lines S G D P)
