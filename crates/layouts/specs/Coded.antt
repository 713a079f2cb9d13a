-- The code's form: its table, in which each of the places that rows are made of has a letter.
use Rattle.std.specs.Prelude.{List, [], ◌∷◌, Bool, false, cond, ℕ, ◌-◌, eqb, ltb, get_or}
use Prim.Native.Char.{Char, code}
use Prim.Native.String.{String, [] as []ˢ, ◌∷◌ as ◌∷ˢ◌}
use Rattle.columns.specs.Format.{most_integer}
use Rattle.layouts.specs.declared.Kind.TheVariants.{R, Given, Weight, S, I, Flag, Count, Outer}
use Rattle.layouts.specs.declared.Kind.TheVariants.{Upper1, Upper2, Degree1, Degree2, P, Q, Bound, Rest}
use Rattle.layouts.specs.declared.Times.TheVariants.{Fixed, N, Knots1, Knots2, C, ThreeC}
use Rattle.layouts.specs.declared.LayoutPlace.{LayoutPlace}
use Rattle.references.specs.References.{entry308, entry142}
use Rattle.layouts.specs.Layout.{◌of◌, any}
use Rattle.layouts.specs.Known.{bit}

-- a letter and its place
pub record Shape : Type 0 where
  pub letter : ℕ
  pub place : LayoutPlace

abbrev is : Char → LayoutPlace → Shape
is c p = record { letter = code c; place = p }

-- all that rows are made of
unfoldable pub shapes : List Shape
shapes =
    is "3" (Fixed 3 of R)
    ∷ is "4" (Fixed 4 of R)
    ∷ is "6" (Fixed 6 of R)
    ∷ is "7" (Fixed 7 of R)
    ∷ is "t" (Fixed 12 of R)
    ∷ is "s" (Fixed 1 of S)
    ∷ is "i" (Fixed 1 of I 0 3)
    ∷ is "1" (Fixed 1 of I 1 1)
    ∷ is "d" (Fixed 1 of I 0 most_integer)
    ∷ is "N" (Fixed 1 of Count)
    ∷ is "o" (Fixed 1 of Outer)
    ∷ is "K" (Fixed 1 of Upper1)
    ∷ is "L" (Fixed 1 of Upper2)
    ∷ is "M" (Fixed 1 of Degree1)
    ∷ is "O" (Fixed 1 of Degree2)
    ∷ is "f" (Fixed 4 of Flag)
    ∷ is "F" (Fixed 5 of Flag)
    ∷ is "k" (Knots1 of Given)
    ∷ is "l" (Knots2 of Given)
    ∷ is "w" (C of Weight)
    ∷ is "c" (ThreeC of Given)
    ∷ is "g" (Fixed 2 of Given)
    ∷ is "G" (Fixed 4 of Given)
    ∷ is "p" (Fixed 1 of P any)
    ∷ is "P" (Fixed 2 of P any)
    ∷ is "Q" (Fixed 1 of Q any)
    ∷ is "q" (N of Q any)
    ∷ is "b" (Fixed 1 of Bound entry142)
    ∷ is "u" (N of Q entry142)
    ∷ is "I" (Fixed 1 of Q entry308)
    ∷ []

-- any other letter is the rest
abbrev pub shape_in : List Shape → ℕ → LayoutPlace
shape_in [] k = Fixed 1 of Rest
shape_in (x ∷ xs) k = cond (eqb k x.letter) x.place (shape_in xs k)

-- the place of a letter
unfoldable pub shape_of : ℕ → LayoutPlace
shape_of k = shape_in shapes k

abbrev bytes : String → List ℕ
bytes []ˢ = []
bytes (c ∷ˢ s) = code c ∷ bytes s

-- the code's table: row after row
unfoldable pub codes : List ℕ
codes = bytes "7NqNq.NqNqNq.6NqNq.3pNqNq.tNqNq.KMfkwcg3NqNq.KLMOFklwcGNqNq.iQPiNqNq.QoNbuNqNq.dsNqNqNq.3sNqNq.NqNqNq.1sNqNq.I4NqNq."

-- the letter at i; past the table that of the rest
unfoldable pub letter_at : ℕ → ℕ
letter_at i = get_or codes i (code ".")

-- what two words tell of the place at i, by a bit for each place
unfoldable pub told : ℕ → ℕ → ℕ → Bool
told low high i = cond (ltb i 64) (bit i low) (cond (ltb i 128) (bit (i - 64) high) false)
