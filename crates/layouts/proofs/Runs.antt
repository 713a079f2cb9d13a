-- An entity value by value: what a caller that steps through its values needs. Assumes nothing.
use mathlib.Core.Path.{◌≡◌, refl, ap, ◌∙◌}
use mathlib.Core.Bool.{true, false}
use mathlib.Core.List.{List, [], ◌∷◌, ◌++◌}
use Prim.Native.Nat.{ℕ, suc}
use lib.ListN.{length}
use Rattle.values.specs.declared.Value.{Value}
use Rattle.values.specs.declared.Value.TheVariants.{Default, Whole, Real, Text}
use Rattle.values.specs.Value.{Item, seen, item_of}
use Rattle.layouts.specs.declared.Kind.{Kind}
use Rattle.layouts.specs.declared.Kind.TheVariants.{R, Given, Weight, S, I, Flag, Count, Outer, Upper1, Upper2, Degree1, Degree2, P, Q, Bound, Rest}
use Rattle.layouts.specs.declared.LayoutState.{LayoutState}
use Rattle.std.specs.Prelude.{Option, Some, None}
use Rattle.layouts.specs.Named.{named}
use Rattle.layouts.specs.Machine.{takes, moved, rests, kind_at, step}
use Rattle.layouts.specs.Walk.{stepped, feed, run, marks_from}

-- ---- where a string stands, and how long it is, says nothing

takes-text : (k : Kind) (s : LayoutState) (class a b c d : ℕ) → takes k s (Text a b) class ≡ takes k s (Text c d) class
unfolding takes
takes-text R s class a b c d = refl
takes-text Given s class a b c d = refl
takes-text Weight s class a b c d = refl
takes-text S s class a b c d = refl
takes-text (I low high) s class a b c d = refl
takes-text Flag s class a b c d = refl
takes-text Count s class a b c d = refl
takes-text Outer s class a b c d = refl
takes-text Upper1 s class a b c d = refl
takes-text Upper2 s class a b c d = refl
takes-text Degree1 s class a b c d = refl
takes-text Degree2 s class a b c d = refl
takes-text (P want) s class a b c d = refl
takes-text (Q want) s class a b c d = refl
takes-text (Bound want) s class a b c d = refl
takes-text Rest s class a b c d = refl

pub step-text : (s : LayoutState) (class a b c d : ℕ) → step s (Text a b) class ≡ step s (Text c d) class
unfolding step
step-text s class a b c d = ap (moved (rests (kind_at s))) (takes-text (kind_at s) s class a b c d)

-- a value that was read in the text t does what its item does, and names what it names
pub step-seen : (t : List ℕ) (s : LayoutState) (v : Value) (class : ℕ) → step s (seen (item_of t v)) class ≡ step s v class
step-seen t s Default class = refl
step-seen t s (Whole neg n) class = refl
step-seen t s (Real neg m eneg e double) class = refl
step-seen t s (Text start count) class = step-text s class _ _ start count

pub named-seen : (types t : List ℕ) (v : Value) → named types (seen (item_of t v)) ≡ named types v
unfolding named
named-seen types t Default = refl
named-seen types t (Whole true n) = refl
named-seen types t (Whole false n) = refl
named-seen types t (Real neg m eneg e double) = refl
named-seen types t (Text start count) = refl

pub feed-stepped : (types t : List ℕ) (g : Option LayoutState) (v : Value) → feed types g (item_of t v) ≡ stepped types g v
feed-stepped types t None v = refl
feed-stepped types t (Some s) v = ap (step s (seen (item_of t v))) (named-seen types t v) ∙ step-seen t s v (named types v)

-- ---- an entity's values

module _ (types : List ℕ) where
  pub run_bad : (vs : List Item) → run types None vs ≡ None
  unfolding run
  run_bad [] = refl
  run_bad (v ∷ vs) = run_bad vs

  pub run-append : (g : Option LayoutState) (vs ws : List Item) → run types g (vs ++ ws) ≡ run types (run types g vs) ws
  unfolding run
  run-append g [] ws = refl
  run-append g (v ∷ vs) ws = run-append (feed types g v) vs ws

  -- a mark for each value
  pub marks-from : (g : Option LayoutState) (vs : List Item) → length (marks_from types g vs) ≡ length vs
  unfolding marks_from
  marks-from g [] = refl
  marks-from g (v ∷ vs) = ap suc (marks-from (feed types g v) vs)
