-- A sheet has one spelling of each value, the one that reading prints: a text is read back only if it is that spelling.
use Rattle.std.specs.Prelude.{cond, ◌&&◌, List, [], ◌∷◌, ℕ, ◌+◌, length, drop, eqb, Option, Some, None}
use Rattle.columns.specs.Columns.{printable, same_bytes}
use Rattle.values.specs.declared.Number.{Number}
use Rattle.values.specs.declared.Number.TheVariants.{Whole as WholeOf, Real as RealOf, Beyond, Bad}
use Rattle.values.specs.declared.Head.{Head}
use Rattle.values.specs.declared.Head.TheVariants.{Count, Plain}
use Rattle.values.specs.declared.Value.{Value}
use Rattle.values.specs.declared.Value.TheVariants.{Default, Whole, Real, Text}
use Rattle.values.specs.Head.{head_of}
use Rattle.values.specs.Value.{item_of, head, spelled}

-- v, if all of l is its spelling
abbrev pub spelt : List ℕ → Value → Option Value
spelt l v = cond (same_bytes (spelled (item_of l v)) l) (Some v) None

-- a number, as it was read
abbrev pub numeral : List ℕ → Number → Option Value
numeral l (WholeOf neg size) = spelt l (Whole neg size)
numeral l (RealOf neg m eneg e double) = spelt l (Real neg m eneg e double)
numeral l Beyond = None
numeral l Bad = None

-- a string, its head the first len characters: just count characters follow, no zero leads the count, all are bytes of 32..126
abbrev pub string : List ℕ → ℕ → ℕ → Option Value
string l count len =
    cond (eqb (len + count) (length l) && (eqb len (length (head count)) && printable (drop len l))) (Some (Text len count)) None

-- by what the text begins with
abbrev pub by_head : List ℕ → Head → Option Value
by_head l (Count count len) = string l count len
by_head l (Plain k) = numeral l k.number

-- the value whose spelling is all of the text; nothing is a default
unfoldable pub strict_of : List ℕ → Option Value
strict_of [] = Some Default
strict_of (b ∷ bs) = by_head (b ∷ bs) (head_of (b ∷ bs))

-- the value that was read back; a default where none was
abbrev pub given_by : Option Value → Value
given_by (Some v) = v
given_by None = Default

-- the value that a text spells
unfoldable pub meant : List ℕ → Value
meant l = given_by (strict_of l)
