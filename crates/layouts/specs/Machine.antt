-- The code's form: the layouts as one machine, where it stands, what one value does, what the end says.
use Rattle.std.specs.Prelude.{Bool, true, false, cond, not, ◌&&◌, ◌||◌, ℕ, zero, suc, ◌+◌, ◌-◌, ◌*◌, eqb, ltb}
use Rattle.std.specs.Prelude.{Option, Some, None, Ok, Err}
use Rattle.columns.specs.Format.{most_integer}
use Rattle.layouts.specs.declared.Kind.{Kind}
use Rattle.layouts.specs.declared.Kind.TheVariants.{R, Given, Weight, S, I, Flag, Count, Outer}
use Rattle.layouts.specs.declared.Kind.TheVariants.{Upper1, Upper2, Degree1, Degree2, P, Q, Bound, Rest}
use Rattle.layouts.specs.declared.Times.{Times}
use Rattle.layouts.specs.declared.Times.TheVariants.{Fixed, N, Knots1, Knots2, C, ThreeC}
use Rattle.layouts.specs.declared.Then.{Then}
use Rattle.layouts.specs.declared.Then.TheVariants.{Next}
use Rattle.values.specs.declared.Value.{Value}
use Rattle.values.specs.declared.Value.TheVariants.{Default, Whole, Real, Text}
use Rattle.values.specs.Value.{is_missing}
use Rattle.layouts.specs.declared.LayoutState.{LayoutState}
use Rattle.columns.specs.declared.Fault.TheVariants.{Layout, LayoutReference}
use Rattle.layouts.specs.Verdict.{Verdict}
use Rattle.references.specs.References.{no_entry, fits}
pub use Rattle.layouts.specs.Tests.{numeric, above, text, within, size}
use Rattle.layouts.specs.Layout.{most_upper, bit_of}
use Rattle.layouts.specs.Table.{place_at, start_of}

-- ---- the state

-- nothing is read yet
abbrev pub fresh : LayoutState
fresh = record { at = 0; left = 0; k1 = 0; k2 = 0; m1 = 0; m2 = 0; bad = false }

-- N or K1 (the K of 126) is read
abbrev pub with_k1 : LayoutState → ℕ → LayoutState
with_k1 s n = record { at = s.at; left = s.left; k1 = n; k2 = s.k2; m1 = s.m1; m2 = s.m2; bad = s.bad }

-- K2, or the N1 of 144
abbrev pub with_k2 : LayoutState → ℕ → LayoutState
with_k2 s n = record { at = s.at; left = s.left; k1 = s.k1; k2 = n; m1 = s.m1; m2 = s.m2; bad = s.bad }

-- M1 (the M of 126)
abbrev pub with_m1 : LayoutState → ℕ → LayoutState
with_m1 s n = record { at = s.at; left = s.left; k1 = s.k1; k2 = s.k2; m1 = n; m2 = s.m2; bad = s.bad }

-- M2
abbrev pub with_m2 : LayoutState → ℕ → LayoutState
with_m2 s n = record { at = s.at; left = s.left; k1 = s.k1; k2 = s.k2; m1 = s.m1; m2 = n; bad = s.bad }

-- whether a reference was bad
abbrev pub with_bad : LayoutState → Bool → LayoutState
with_bad s b = record { at = s.at; left = s.left; k1 = s.k1; k2 = s.k2; m1 = s.m1; m2 = s.m2; bad = b }

-- at place i with so many of it left
abbrev pub stand : LayoutState → ℕ → ℕ → LayoutState
stand s i n = record { at = i; left = n; k1 = s.k1; k2 = s.k2; m1 = s.m1; m2 = s.m2; bad = s.bad }

-- how many places; 126 has K2 = 0, so that C is K+1
abbrev pub times : Times → LayoutState → ℕ
times (Fixed n) s = n
times N s = s.k1
times Knots1 s = s.k1 + s.m1 + 2
times Knots2 s = s.k2 + s.m2 + 2
times C s = (s.k1 + 1) * (s.k2 + 1)
times ThreeC s = 3 * ((s.k1 + 1) * (s.k2 + 1))

-- the place after
abbrev pub follow : Then → LayoutState → LayoutState
follow Next s = stand s (s.at + 1) 0

-- at a place, with all of it left
abbrev pub enter : LayoutState → LayoutState
enter s = stand s s.at (times (place_at s.at).times s)

-- at the place after
abbrev pub beyond : LayoutState → LayoutState
beyond s = enter (follow (place_at s.at).next s)

-- one state or the other
abbrev pub if_empty : Bool → LayoutState → LayoutState → LayoutState
if_empty true t s = t
if_empty false t s = s

-- past a place of which there is none: no two such stand side by side (proofs/Empties.settled)
unfoldable pub settle : LayoutState → LayoutState
settle s = if_empty (eqb s.left 0) (beyond s) s

-- past the place that took a value
unfoldable pub onward : LayoutState → LayoutState
onward s = cond (ltb 1 s.left) (stand s s.at (s.left - 1)) (settle (beyond s))

-- ---- one value

-- a test that fails is 14
abbrev pub need : Bool → LayoutState → Option LayoutState
need b s = cond b (Some s) None

-- a reference, which may be 0 or missing where free: what is wrong with it is told at the end
abbrev pub refer : Bool → ℕ → LayoutState → Value → ℕ → Option LayoutState
refer free want s Default class = Some (with_bad s (s.bad || not free))
refer free want s (Whole neg n) class = Some (with_bad s (s.bad || not ((free && eqb n 0) || fits want class)))
refer free want s (Real neg m eneg e double) class = None
refer free want s (Text start count) class = None

-- what the place of a kind makes of a value; class is that of the entry that it names
unfoldable pub takes : Kind → LayoutState → Value → ℕ → Option LayoutState
takes R s v class = need (numeric v || is_missing v) s
takes Given s v class = need (numeric v) s
takes Weight s v class = need (above v) s
takes S s v class = need (text v || is_missing v) s
takes (I low high) s v class = need (within false low high v) s
takes Flag s v class = need (within true 0 1 v) s
takes Count s v class = need (within false 0 most_integer v) (with_k1 s (size v))
takes Outer s v class = need (within false 0 1 v) (with_k2 s (size v))
takes Upper1 s v class = need (within true 1 most_upper v) (with_k1 s (size v))
takes Upper2 s v class = need (within true 1 most_upper v) (with_k2 s (size v))
takes Degree1 s v class = need (within true 1 s.k1 v) (with_m1 s (size v))
takes Degree2 s v class = need (within true 1 s.k2 v) (with_m2 s (size v))
takes (P want) s v class = refer true want s v class
takes (Q want) s v class = refer false want s v class
takes (Bound want) s v class = refer (not (eqb s.k2 1)) want s v class
takes Rest s v class = need (is_missing v) s

-- nothing but defaults follows
abbrev pub rests : Kind → Bool
rests Rest = true
rests R = false
rests Given = false
rests Weight = false
rests S = false
rests (I low high) = false
rests Flag = false
rests Count = false
rests Outer = false
rests Upper1 = false
rests Upper2 = false
rests Degree1 = false
rests Degree2 = false
rests (P want) = false
rests (Q want) = false
rests (Bound want) = false

-- a reference place: R in the sheet
abbrev pub refers : Kind → Bool
refers R = false
refers Given = false
refers Weight = false
refers S = false
refers (I low high) = false
refers Flag = false
refers Count = false
refers Outer = false
refers Upper1 = false
refers Upper2 = false
refers Degree1 = false
refers Degree2 = false
refers (P want) = true
refers (Q want) = true
refers (Bound want) = true
refers Rest = false

-- a place that takes numbers as they come
abbrev pub reals : Kind → Bool
reals R = true
reals Given = true
reals Weight = false
reals S = false
reals (I low high) = false
reals Flag = false
reals Count = false
reals Outer = false
reals Upper1 = false
reals Upper2 = false
reals Degree1 = false
reals Degree2 = false
reals (P want) = false
reals (Q want) = false
reals (Bound want) = false
reals Rest = false

-- the kind of the place where it stands
abbrev pub kind_at : LayoutState → Kind
kind_at s = (place_at s.at).kind

-- behind the rest nothing moves
abbrev pub moved : Bool → Option LayoutState → Option LayoutState
moved rest None = None
moved rest (Some t) = Some (cond rest t (onward t))

-- at the first place of a type and form
unfoldable pub start : ℕ → ℕ → LayoutState
start typ form = enter (stand fresh (start_of (bit_of typ form)) 0)

-- one value more
unfoldable pub step : LayoutState → Value → ℕ → Option LayoutState
step s v class = moved (rests (kind_at s)) (takes (kind_at s) s v class)

-- a number stands at a place that takes it as it comes, and more of the place follow
unfoldable pub runs_on : LayoutState → Value → Bool
runs_on s v = ltb 1 s.left && (reals (kind_at s) && numeric v)

-- ---- the end: what is missing is a default

-- at the rest of a row
abbrev pub closed : Bool → Verdict
closed bad = cond bad (Err LayoutReference) (Ok tt)

-- a place took its default, or did not
abbrev pub after : Bool → Option LayoutState → (LayoutState → Verdict) → Verdict
after rest None f = Err Layout
after rest (Some t) f = cond rest (closed t.bad) (f t)

-- in so many places at most
unfoldable pub finish : ℕ → LayoutState → Verdict
finish zero s = Err Layout
finish (suc n) s = after (rests (kind_at s)) (takes (kind_at s) s Default no_entry) (λ t. finish n (settle (beyond t)))

-- no row has more than 16 (proofs/Trailing.enough)
unfoldable pub end : LayoutState → Verdict
end s = finish 16 s
