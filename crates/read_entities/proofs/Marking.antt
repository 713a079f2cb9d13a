-- The marks of an entity's values, one after the other. Assumes nothing.
use mathlib.Core.Path.{◌≡◌, sym, ap, ◌∙◌}
use mathlib.Core.Bool.{Bool, true, false}
use mathlib.Core.List.{List}
use Prim.Native.Nat.{ℕ}
use Rattle.values.specs.declared.Value.{Value}
use Rattle.values.specs.Value.{Item}
use Rattle.layouts.specs.declared.LayoutState.{LayoutState}
use Rattle.std.specs.Prelude.{Option, Some, None}
use Rattle.layouts.specs.Named.{named}
use Rattle.layouts.specs.Known.{known}
use Rattle.layouts.specs.Machine.{start, step, refers, kind_at}
use Rattle.layouts.specs.Walk.{stepped, mark, marks_from}
use Rattle.layouts.specs.Entities.{marks}
use Rattle.layouts.specs.Fits.{Keeps}
use Rattle.layouts.proofs.Walk.{marks-judged}
use Rattle.model.specs.Model.{marked}
use Rattle.read_entities.specs.Taking.{entity_with}
use Rattle.read_entities.specs.Marks.{marks_begun, marked_from}

-- ---- marks

module _ (list typ form : ℕ) {y : Bool} (ey : y ≡ known list typ form) where
  pub begun-known : y ≡ true → {s : LayoutState} → s ≡ start typ form → Some s ≡ marks_begun list typ form
  unfolding marks_begun
  begun-known e q = rw (← ey, e, q)

  pub begun-carried : y ≡ false → None ≡ marks_begun list typ form
  unfolding marks_begun
  begun-carried e = rw (← ey, e)

module _ {g : Option LayoutState} where
  pub mark_go : {s : LayoutState} {b : Bool} → g ≡ Some s → b ≡ refers (kind_at s) → b ≡ mark g
  mark_go e q = rw e q

  pub mark_bad : g ≡ None → false ≡ mark g
  mark_bad e = rw e

  module _ (types : List ℕ) (v : Value) where
    pub stepped_go : {s : LayoutState} (class : ℕ) {r : Option LayoutState} → g ≡ Some s → class ≡ named types v → r ≡ step s v class → r ≡ stepped types g v
    stepped_go {s} class e q h = rw e (h ∙ ap (step s v) q)

    pub stepped_bad : g ≡ None → None ≡ stepped types g v
    stepped_bad e = rw e

pub ruleset marking = (begun-known, begun-carried, mark_go, mark_bad, stepped_go, stepped_bad)

-- ---- an entity's values with their marks, from the first on

module _ (types : List ℕ) (list typ form : ℕ) (vs : List Item) (keeps : known list typ form ≡ true → Keeps types (entity_with typ form vs)) where
  -- the marks of an entity that is accepted are those from the beginning on
  pub marks_begin : marks list (entity_with typ form vs) ≡ marks_from types (marks_begun list typ form) vs
  unfolding marks_begun
  marks_begin = sym (marks-judged types list (entity_with typ form vs) keeps)

  pub marked-begin : marked (marks list (entity_with typ form vs)) vs ≡ marked_from types (marks_begun list typ form) vs
  unfolding marked_from
  marked-begin = ap (λ (l : List Bool). marked l vs) marks_begin
