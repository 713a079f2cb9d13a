-- The type list and the layouts of document 01, "Type list", as its table has them.
use Rattle.std.specs.Prelude.{Bool, true, cond, ◌&&◌, List, [], ◌∷◌, ℕ, suc, eqb}
use Rattle.columns.specs.Format.{most_integer}
use Rattle.layouts.specs.declared.Kind.{Kind}
use Rattle.layouts.specs.declared.Kind.TheVariants.{R, Given, Weight, S, I, Flag, Count, Outer}
use Rattle.layouts.specs.declared.Kind.TheVariants.{Upper1, Upper2, Degree1, Degree2, P, Q, Bound}
use Rattle.layouts.specs.declared.Times.{Times}
use Rattle.layouts.specs.declared.Times.TheVariants.{Fixed, N, Knots1, Knots2, C, ThreeC}
use Rattle.layouts.specs.declared.Then.TheVariants.{Next}
use Rattle.layouts.specs.declared.LayoutPlace.{LayoutPlace}
use Rattle.references.specs.References.{no_entry, entry308, entry142}

infix 68 ◌of◌
-- so many places of one kind
abbrev pub ◌of◌ : Times → Kind → LayoutPlace
t of k = record { kind = k; times = t; next = Next }

-- one place
abbrev pub one : Kind → LayoutPlace
one k = Fixed 1 of k

-- a reference that asks its target for no type; others name the class that they ask for
abbrev pub any : ℕ
any = no_entry

-- the largest K of 126 and 128
abbrev pub most_upper : ℕ
most_upper = 10000

-- which forms of its type a row is for
pub data Form : Type 0 where
  every : Form
  only : ℕ → Form

-- a row of the table
pub record Row : Type 0 where
  pub typ : ℕ
  pub form : Form
  pub places : List LayoutPlace

abbrev row : ℕ → Form → List LayoutPlace → Row
row t f ps = record { typ = t; form = f; places = ps }

-- the places of 126: K, M, flags, knots, weights, control points, limits, normal
abbrev curve : List LayoutPlace
curve =
    one Upper1 ∷ one Degree1 ∷ Fixed 4 of Flag ∷ Knots1 of Given ∷ C of Weight ∷ ThreeC of Given
    ∷ Fixed 2 of Given ∷ Fixed 3 of R ∷ []

-- the places of 128: K1, K2, M1, M2, flags, both knot sequences, weights, control points, limits
abbrev surface : List LayoutPlace
surface =
    one Upper1 ∷ one Upper2 ∷ one Degree1 ∷ one Degree2 ∷ Fixed 5 of Flag ∷ Knots1 of Given ∷ Knots2 of Given
    ∷ C of Weight ∷ ThreeC of Given ∷ Fixed 4 of Given ∷ []

-- the table, bit 0 upward
unfoldable pub paper : List Row
paper =
    row 100 every (Fixed 7 of R ∷ [])
    ∷ row 102 every (one Count ∷ N of Q any ∷ [])
    ∷ row 110 every (Fixed 6 of R ∷ [])
    ∷ row 116 every (Fixed 3 of R ∷ one (P any) ∷ [])
    ∷ row 124 every (Fixed 12 of R ∷ [])
    ∷ row 126 every curve
    ∷ row 128 every surface
    ∷ row 142 every (one (I 0 3) ∷ one (Q any) ∷ Fixed 2 of P any ∷ one (I 0 3) ∷ [])
    ∷ row 144 every (one (Q any) ∷ one Outer ∷ one Count ∷ one (Bound entry142) ∷ N of Q entry142 ∷ [])
    ∷ row 308 every (one (I 0 most_integer) ∷ one S ∷ one Count ∷ N of Q any ∷ [])
    ∷ row 314 every (Fixed 3 of R ∷ one S ∷ [])
    ∷ row 402 (only 7) (one Count ∷ N of Q any ∷ [])
    ∷ row 406 (only 15) (one (I 1 1) ∷ one S ∷ [])
    ∷ row 408 every (one (Q entry308) ∷ Fixed 4 of R ∷ [])
    ∷ []

-- after the layout: a count of q and those, then a second count of q and those
abbrev pub groups : List LayoutPlace
groups = one Count ∷ N of Q any ∷ one Count ∷ N of Q any ∷ []

-- only 402 and 406 look at the form
abbrev accepts : Form → ℕ → Bool
accepts every f = true
accepts (only n) f = eqb f n

-- how many rows stand before the one for a type and form
abbrev pub seek : List Row → ℕ → ℕ → ℕ
seek [] t f = 0
seek (r ∷ rs) t f = cond (eqb t r.typ && accepts r.form f) 0 (suc (seek rs t f))

-- the bit for a type and form; as many as there are rows where no bit is
unfoldable pub bit_of : ℕ → ℕ → ℕ
bit_of t f = seek paper t f
