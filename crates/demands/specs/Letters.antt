-- Two texts that differ in mark letters alone, byte by byte.
use Rattle.std.specs.Prelude.{List, [], ◌∷◌, ℕ}
use Rattle.columns.specs.Letters.{letter_e, letter_r, letter_u, letter_v}

-- the same bytes, but for E where the first has U, and R where it has V
pub data LettersOnly : List ℕ → List ℕ → Type 0 where
  none : LettersOnly [] []
  same : {s t : List ℕ} (b : ℕ) → LettersOnly s t → LettersOnly (b ∷ s) (b ∷ t)
  known : {s t : List ℕ} → LettersOnly s t → LettersOnly (letter_u ∷ s) (letter_e ∷ t)
  reference : {s t : List ℕ} → LettersOnly s t → LettersOnly (letter_v ∷ s) (letter_r ∷ t)
