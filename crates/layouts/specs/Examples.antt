-- Worked examples: entities with their verdicts, refusals and marks, as tables and one theorem.
use Rattle.std.specs.Prelude.{◌≡◌, refl, true, false, List, [], ◌∷◌, ◌++◌, map, ℕ, replicate, Ok, Err}
use Rattle.columns.specs.declared.Fault.TheVariants.{Layout, LayoutReference}
use Rattle.columns.specs.Refusal.{Outcome, accepted, refused}
use Rattle.columns.specs.Format.{most_list}
use Rattle.values.specs.Value.{Item, default, whole, real, text}
use Rattle.layouts.specs.Verdict.{Verdict}
use Rattle.references.specs.References.{class_at, class_of}
use Rattle.layouts.specs.Named.{named}
use Rattle.layouts.specs.Layout.{paper, bit_of}
use Rattle.layouts.specs.Known.{known}
use Rattle.layouts.specs.Fits.{places_of, asked}
use Rattle.layouts.specs.Entities.{Entity, everywhere, verdict, entity_check, reference_places, marks}

-- a file whose entries 1, 3, 5 are a point, a 308 and a 142
abbrev types : List ℕ
types = 116 ∷ 308 ∷ 142 ∷ []

abbrev i : ℕ → Item
i n = whole false n

-- 1., 0., -1.
abbrev r : Item
r = real false 1 false 0 false

abbrev nought : Item
nought = real false 0 false 0 false

abbrev minus : Item
minus = real true 1 false 0 false

abbrev s : Item
s = text (72 ∷ 65 ∷ 66 ∷ [])

abbrev entity : ℕ → ℕ → List Item → Entity
entity t f vs = record { typ = t; form = f; values = vs }

-- K = 1, M = 1, four flags, four knots, two weights, six coordinates, two reals
abbrev curve : Item → Item → List Item → List Item
curve knot weight more =
    i 1 ∷ i 1 ∷ replicate 4 (i 0) ++ (knot ∷ replicate 3 r) ++ (r ∷ weight ∷ []) ++ replicate 6 r ++ replicate 2 r ++ more

-- K1 = K2 = M1 = M2 = 1, five flags, four and four knots, four weights, twelve coordinates, four reals
abbrev surface : List Item → List Item
surface last = replicate 4 (i 1) ++ replicate 5 (i 1) ++ replicate 8 r ++ replicate 4 r ++ replicate 12 r ++ last

-- an entity and its verdict
abbrev tests : List (Entity × Verdict)
tests =
    (entity 102 0 (i 2 ∷ i 1 ∷ []), Err LayoutReference)
    ∷ (entity 102 0 (i 2 ∷ i 1 ∷ i 3 ∷ []), Ok tt)
    ∷ (entity 102 0 (i 2 ∷ i 1 ∷ i 2 ∷ []), Err LayoutReference)
    ∷ (entity 102 0 (i 2 ∷ i 1 ∷ r ∷ []), Err Layout)
    ∷ (entity 102 0 (i 2 ∷ i 7 ∷ i 1 ∷ i 0 ∷ r ∷ []), Err Layout)
    ∷ (entity 102 0 (whole true 1 ∷ []), Err Layout)
    ∷ (entity 102 0 [], Ok tt)
    ∷ (entity 100 0 (replicate 6 r), Ok tt)
    ∷ (entity 100 0 (i 1 ∷ whole true 2 ∷ i 0 ∷ r ∷ []), Ok tt)
    ∷ (entity 100 0 (s ∷ []), Err Layout)
    ∷ (entity 110 0 (replicate 6 r), Ok tt)
    ∷ (entity 110 0 (replicate 6 r ++ r ∷ []), Err Layout)
    ∷ (entity 110 0 (replicate 6 r ++ default ∷ r ∷ []), Err Layout)
    ∷ (entity 110 0 (replicate 6 r ++ i 1 ∷ i 1 ∷ i 1 ∷ i 3 ∷ default ∷ []), Ok tt)
    ∷ (entity 110 0 (replicate 6 r ++ i 1 ∷ i 1 ∷ i 0 ∷ i 0 ∷ []), Err Layout)
    ∷ (entity 110 0 (replicate 6 r ++ i 1 ∷ []), Err LayoutReference)
    ∷ (entity 116 0 (r ∷ nought ∷ r ∷ []), Ok tt)
    ∷ (entity 116 0 (r ∷ nought ∷ r ∷ i 0 ∷ []), Ok tt)
    ∷ (entity 116 0 (r ∷ nought ∷ r ∷ whole true 1 ∷ []), Err LayoutReference)
    ∷ (entity 126 0 (curve r r []), Ok tt)
    ∷ (entity 126 0 (curve r r (default ∷ default ∷ r ∷ [])), Ok tt)
    ∷ (entity 126 0 (curve default r []), Err Layout)
    ∷ (entity 126 0 (curve r nought []), Err Layout)
    ∷ (entity 126 0 (curve r minus []), Err Layout)
    ∷ (entity 126 0 (curve (i 0) (i 1) (i 0 ∷ i 0 ∷ i 1 ∷ [])), Ok tt)
    ∷ (entity 126 0 (curve r (i 0) []), Err Layout)
    ∷ (entity 126 0 (curve r (whole true 1) []), Err Layout)
    ∷ (entity 126 0 (i 1 ∷ i 2 ∷ []), Err Layout)
    ∷ (entity 126 0 [], Err Layout)
    ∷ (entity 128 0 (surface (replicate 4 r)), Ok tt)
    ∷ (entity 128 0 (surface (replicate 3 r)), Err Layout)
    ∷ (entity 142 0 (i 3 ∷ i 1 ∷ i 0 ∷ i 0 ∷ i 4 ∷ []), Err Layout)
    ∷ (entity 142 0 (i 3 ∷ i 1 ∷ i 0 ∷ i 5 ∷ i 3 ∷ []), Ok tt)
    ∷ (entity 142 0 (i 3 ∷ i 0 ∷ []), Err LayoutReference)
    ∷ (entity 144 0 (i 1 ∷ i 0 ∷ i 0 ∷ []), Ok tt)
    ∷ (entity 144 0 (i 1 ∷ i 1 ∷ i 0 ∷ []), Err LayoutReference)
    ∷ (entity 144 0 (i 1 ∷ i 1 ∷ i 0 ∷ i 5 ∷ []), Ok tt)
    ∷ (entity 144 0 (i 1 ∷ i 0 ∷ i 1 ∷ i 0 ∷ i 5 ∷ []), Ok tt)
    ∷ (entity 144 0 (i 1 ∷ i 0 ∷ i 1 ∷ i 0 ∷ i 3 ∷ []), Err LayoutReference)
    ∷ (entity 144 0 (i 1 ∷ i 2 ∷ []), Err Layout)
    ∷ (entity 144 0 [], Err LayoutReference)
    ∷ (entity 308 0 (i 0 ∷ s ∷ i 1 ∷ i 1 ∷ []), Ok tt)
    ∷ (entity 308 0 (i 0 ∷ i 1 ∷ []), Err Layout)
    ∷ (entity 314 0 (r ∷ r ∷ r ∷ s ∷ []), Ok tt)
    ∷ (entity 402 7 (i 1 ∷ i 1 ∷ []), Ok tt)
    ∷ (entity 406 15 (i 1 ∷ s ∷ []), Ok tt)
    ∷ (entity 406 15 [], Err Layout)
    ∷ (entity 408 0 (i 3 ∷ r ∷ []), Ok tt)
    ∷ (entity 408 0 (i 1 ∷ r ∷ []), Err LayoutReference)
    ∷ (entity 408 0 (s ∷ r ∷ []), Err Layout)
    ∷ []

-- a list, an entity, and its refusal under the list, at line 9
abbrev checks : List (ℕ × Entity × Outcome (Unit {0}))
checks =
    (most_list, entity 402 6 (s ∷ []), accepted tt)
    ∷ (2048, entity 402 7 (s ∷ []), refused Layout 9)
    ∷ (2047, entity 402 7 (s ∷ []), accepted tt)
    ∷ (256, entity 144 0 [], refused LayoutReference 9)
    ∷ []

-- all of them; 402 form 6 is carried under any list, 402 form 7 is read under list 2048; counts are V, references R
pub examples : (map (λ (x : Entity × Verdict). verdict types x.0) tests ≡ map (λ (x : Entity × Verdict). x.1) tests)
    × (map (λ (x : ℕ × Entity × Outcome (Unit {0})). entity_check x.0 types x.1 9) checks
    ≡ map (λ (x : ℕ × Entity × Outcome (Unit {0})). x.2) checks)
    × (marks most_list (entity 144 0 (i 1 ∷ i 0 ∷ i 1 ∷ i 0 ∷ i 5 ∷ i 1 ∷ i 1 ∷ []))
    ≡ true ∷ false ∷ false ∷ true ∷ true ∷ false ∷ true ∷ [])
    × (marks 0 (entity 144 0 (i 1 ∷ i 0 ∷ [])) ≡ false ∷ false ∷ [])
unfolding marks reference_places entity_check known verdict everywhere asked places_of paper bit_of named class_at class_of
examples = (refl, refl, refl, refl)
