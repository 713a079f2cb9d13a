-- A string's head: a count 1..999 in one to three digits, and H.
use Rattle.std.specs.Prelude.{cond, ◌&&◌, List, ℕ, ◌+◌, length, get_or, leb, eqb}
use Rattle.columns.specs.Letters.{letter_h}
use Rattle.values.specs.declared.Token.{Token}
use Rattle.values.specs.declared.Head.{Head}
use Rattle.values.specs.declared.Head.TheVariants.{Count, Plain}
use Rattle.values.specs.Number.{digits, value, number_of}

-- n digits that spell v, and x behind them: a count, or else the number k
abbrev pub head_from : ℕ → ℕ → ℕ → Token → Head
head_from x n v k = cond (eqb x letter_h && (leb n 3 && leb 1 v)) (Count v (n + 1)) (Plain k)

-- what the rest of a line begins with
unfoldable pub head_of : List ℕ → Head
head_of l = let ds = digits l in head_from (get_or l (length ds) 0) (length ds) (value 0 ds) (number_of l)
