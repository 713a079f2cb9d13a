-- Columns of a line, and the lines of a file: 81 bytes each, 80 columns and LF.
use Rattle.std.specs.Prelude.{ℕ, zero, suc, ◌+◌, ◌-◌, ◌*◌, Bool, true, false, ◌&&◌, List, [], ◌∷◌, ◌++◌, take}
use Rattle.std.specs.Prelude.{drop, leb, eqb}
use Rattle.columns.specs.Format.{line_bytes}
use Rattle.columns.specs.Letters.{space}

-- the columns of s from at up to, not including, end; columns are counted from 0
unfoldable pub columns : List ℕ → ℕ → ℕ → List ℕ
columns s at end = take (end - at) (drop at s)

-- bytes from 32 to 126
unfoldable pub printable : List ℕ → Bool
printable [] = true
printable (b ∷ bs) = leb 32 b && (leb b 126 && printable bs)

-- blanks alone
unfoldable pub blank : List ℕ → Bool
blank [] = true
blank (b ∷ bs) = eqb b space && blank bs

-- byte for byte the same
unfoldable pub same_bytes : List ℕ → List ℕ → Bool
same_bytes [] [] = true
same_bytes [] (b ∷ ys) = false
same_bytes (a ∷ xs) [] = false
same_bytes (a ∷ xs) (b ∷ ys) = eqb a b && same_bytes xs ys

-- lines, one behind the other
unfoldable pub joined : List (List ℕ) → List ℕ
joined [] = []
joined (l ∷ ls) = l ++ joined ls

-- line k of a file, from 0, with its LF
unfoldable pub line_at : List ℕ → ℕ → List ℕ
line_at f k = columns f (line_bytes * k) (line_bytes * k + line_bytes)

-- the first w columns of so many lines, the first of them at base, joined: position p of this text stands on line p / w of them, in column
-- p % w
unfoldable pub text_of : List ℕ → ℕ → ℕ → ℕ → List ℕ
text_of file base w zero = []
text_of file base w (suc lines) = take w (drop base file) ++ text_of file (base + line_bytes) w lines
