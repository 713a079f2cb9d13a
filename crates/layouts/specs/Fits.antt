-- The layouts as document 01 has them: the places of a row one by one, as many as its own counts say, what each asks of the value that
-- stands there, and nothing but defaults behind. No step, no order.
use Rattle.std.specs.Prelude.{◌≡◌, Bool, true, false, not, ◌&&◌, ◌||◌, List, [], ◌∷◌, ◌++◌, map, ℕ, ◌+◌}
use Rattle.std.specs.Prelude.{◌*◌, eqb, get_or, drop, replicate}
use Rattle.columns.specs.Format.{most_integer}
use Rattle.layouts.specs.declared.Kind.{Kind}
use Rattle.layouts.specs.declared.Kind.TheVariants.{R, Given, Weight, S, I, Flag, Count, Outer}
use Rattle.layouts.specs.declared.Kind.TheVariants.{Upper1, Upper2, Degree1, Degree2, P, Q, Bound, Rest}
use Rattle.layouts.specs.declared.Times.{Times}
use Rattle.layouts.specs.declared.Times.TheVariants.{Fixed, N, Knots1, Knots2, C, ThreeC}
use Rattle.layouts.specs.declared.LayoutPlace.{LayoutPlace}
use Rattle.values.specs.declared.Value.{Value}
use Rattle.values.specs.Value.{Item, default, seen, is_missing}
use Rattle.references.specs.References.{fits}
use Rattle.layouts.specs.Named.{named}
use Rattle.layouts.specs.Layout.{Row, most_upper, paper, groups, bit_of}
use Rattle.layouts.specs.Tests.{numeric, above, text, within, size, integer}
use Rattle.layouts.specs.Entity.{Entity}

-- ---- what one place asks

pub data Ask : Type 0 where
  -- r: a real or an integer, a default is zero; one that must be given; one above zero that must be given
  a_real a_given_real a_weight : Ask
  -- s: a string, or missing
  a_string : Ask
  -- i: an integer from low to high; where it need not be given, a default is 0
  an_integer : (given : Bool) (low high : ℕ) → Ask
  -- p and q: a reference to an entry of a class; p is free to be 0 or missing
  a_reference : (free : Bool) (want : ℕ) → Ask
  -- nothing but a default
  nothing : Ask

-- a value of the kind and in the range that is asked: what fails here is 14
abbrev pub suits : Ask → Value → Bool
suits a_real v = numeric v || is_missing v
suits a_given_real v = numeric v
suits a_weight v = above v
suits a_string v = text v || is_missing v
suits (an_integer given low high) v = within given low high v
suits (a_reference free want) v = integer v || is_missing v
suits nothing v = is_missing v

-- 0 or missing, of an integer or a default
abbrev pub nought : Value → Bool
nought v = eqb (size v) 0

-- a reference is 0 or missing where it may be, or names an entry of the class; what fails here is 15. Types are those of all entries in
-- directory order
abbrev pub refers_well : List ℕ → Ask → Value → Bool
refers_well types (a_reference free want) v = (free && nought v) || fits want (named types v)
refers_well types a_real v = true
refers_well types a_given_real v = true
refers_well types a_weight v = true
refers_well types a_string v = true
refers_well types (an_integer given low high) v = true
refers_well types nothing v = true

-- a reference: R in the sheet
abbrev pub is_reference : Ask → Bool
is_reference (a_reference free want) = true
is_reference a_real = false
is_reference a_given_real = false
is_reference a_weight = false
is_reference a_string = false
is_reference (an_integer given low high) = false
is_reference nothing = false

-- ---- counts

-- the numbers that a row's own values give: N, K or K1; K2, or the N1 of 144; M or M1; M2
pub record Counts : Type 0 where
  pub k1 : ℕ
  pub k2 : ℕ
  pub m1 : ℕ
  pub m2 : ℕ

abbrev pub none : Counts
none = record { k1 = 0; k2 = 0; m1 = 0; m2 = 0 }

-- which of them the value of a kind tells
pub data Told : Type 0 where
  uncounted is_k1 is_k2 is_m1 is_m2 : Told

abbrev pub tells : Kind → Told
tells Count = is_k1
tells Outer = is_k2
tells Upper1 = is_k1
tells Upper2 = is_k2
tells Degree1 = is_m1
tells Degree2 = is_m2
tells R = uncounted
tells Given = uncounted
tells Weight = uncounted
tells S = uncounted
tells (I low high) = uncounted
tells Flag = uncounted
tells (P want) = uncounted
tells (Q want) = uncounted
tells (Bound want) = uncounted
tells Rest = uncounted

abbrev pub put : Told → ℕ → Counts → Counts
put uncounted n c = c
put is_k1 n c = record { k1 = n; k2 = c.k2; m1 = c.m1; m2 = c.m2 }
put is_k2 n c = record { k1 = c.k1; k2 = n; m1 = c.m1; m2 = c.m2 }
put is_m1 n c = record { k1 = c.k1; k2 = c.k2; m1 = n; m2 = c.m2 }
put is_m2 n c = record { k1 = c.k1; k2 = c.k2; m1 = c.m1; m2 = n }

-- the counts behind a place of a kind where v stands; a default counts for 0. A value out of its range fails at its own place, whatever it
-- would count for
abbrev pub counted : Kind → Value → Counts → Counts
counted k v c = put (tells k) (size v) c

-- how many places; 126 has K2 = 0, so that C is K+1
abbrev pub many : Times → Counts → ℕ
many (Fixed n) c = n
many N c = c.k1
many Knots1 c = c.k1 + c.m1 + 2
many Knots2 c = c.k2 + c.m2 + 2
many C c = (c.k1 + 1) * (c.k2 + 1)
many ThreeC c = 3 * ((c.k1 + 1) * (c.k2 + 1))

-- what a place of a kind asks; flags are 0..1, 1 <= M <= K <= 10,000, the p of 144 is a q if N1 is 1
abbrev pub ask : Kind → Counts → Ask
ask R c = a_real
ask Given c = a_given_real
ask Weight c = a_weight
ask S c = a_string
ask (I low high) c = an_integer false low high
ask Flag c = an_integer true 0 1
ask Count c = an_integer false 0 most_integer
ask Outer c = an_integer false 0 1
ask Upper1 c = an_integer true 1 most_upper
ask Upper2 c = an_integer true 1 most_upper
ask Degree1 c = an_integer true 1 c.k1
ask Degree2 c = an_integer true 1 c.k2
ask (P want) c = a_reference true want
ask (Q want) c = a_reference false want
ask (Bound want) c = a_reference (not (eqb c.k2 1)) want
ask Rest c = nothing

-- ---- the places of an entity, one by one

-- the value at i; past the last a default
abbrev pub value_at : List Item → ℕ → Value
value_at vs i = seen (get_or vs i default)

-- what is asked of values, given the counts so far
abbrev pub Asks : Type 0
Asks = Counts → List Item → List Ask

-- nothing more
abbrev pub close : Asks
close c vs = []

-- these places, then what comes after them
abbrev pub spelled : List LayoutPlace → Asks → Asks
spelled [] more c vs = more c vs
spelled (p ∷ ps) more c vs =
    let n = many p.times c in
    replicate n (ask p.kind c) ++ spelled ps more (counted p.kind (value_at vs 0) c) (drop n vs)

-- the row of a type and form
unfoldable pub places_of : ℕ → ℕ → List LayoutPlace
places_of typ form = get_or (map (λ (r : Row). r.places) paper) (bit_of typ form) []

-- all that is asked of an entity's values
unfoldable pub asked : Entity → List Ask
asked e = spelled (places_of e.typ e.form) (spelled groups close) none e.values

-- what is asked at i; behind the last place nothing may stand
abbrev pub ask_at : List Ask → ℕ → Ask
ask_at ps i = get_or ps i nothing

-- every place takes the value that stands there, in kind, count and range
abbrev pub Fits : Entity → Type 0
Fits e = (i : ℕ) → suits (ask_at (asked e) i) (value_at e.values i) ≡ true

-- some place does not, or a value too many stands behind: 14
abbrev pub Fails : Entity → Type 0
Fails e = (i : ℕ) × (suits (ask_at (asked e) i) (value_at e.values i) ≡ false)

-- every reference is good
abbrev pub Refers : List ℕ → Entity → Type 0
Refers types e = (i : ℕ) → refers_well types (ask_at (asked e) i) (value_at e.values i) ≡ true

-- some reference is not
abbrev pub Misrefers : List ℕ → Entity → Type 0
Misrefers types e = (i : ℕ) × (refers_well types (ask_at (asked e) i) (value_at e.values i) ≡ false)

-- an entity keeps to its layout: neither 14 nor 15
pub record Keeps (types : List ℕ) (e : Entity) : Type 0 where
  pub fits : Fits e
  pub refers : Refers types e
