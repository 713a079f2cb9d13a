-- Worked examples: rows of the table spelled out for some values, as tables and one theorem.
use Rattle.std.specs.Prelude.{◌≡◌, refl, true, false, List, [], ◌∷◌, ◌++◌, map, ℕ, replicate}
use Rattle.columns.specs.Format.{most_integer}
use Rattle.values.specs.Value.{Item, default, whole}
use Rattle.references.specs.References.{no_entry, entry142}
use Rattle.layouts.specs.Layout.{paper, bit_of}
use Rattle.layouts.specs.Entity.{Entity}
use Rattle.layouts.specs.Fits.{Ask, a_real, a_given_real, a_weight, an_integer, a_reference, places_of, asked}

abbrev i : ℕ → Item
i n = whole false n

abbrev entity : ℕ → List Item → Entity
entity t vs = record { typ = t; form = 0; values = vs }

abbrev count : Ask
count = an_integer false 0 most_integer

abbrev q : Ask
q = a_reference false no_entry

-- 110 is 6r, and two counts of none
-- 102 with N = 2, then a group of one and a group of none
-- 126 with K = 2 and M = 1: four flags, 5 knots, 3 weights, 9 coordinates, 2r, 3r
-- 144 with N1 = 0, N2 = 1: its p is free; with N1 = 1, N2 = 0 it is not
abbrev rows : List (Entity × List Ask)
rows =
    (entity 110 [], replicate 6 a_real ++ count ∷ count ∷ [])
    ∷ (entity 102 (i 2 ∷ i 1 ∷ i 3 ∷ i 1 ∷ i 5 ∷ []), count ∷ q ∷ q ∷ count ∷ q ∷ count ∷ [])
    ∷ (
      entity 126 (i 2 ∷ i 1 ∷ []),
      an_integer true 1 10000 ∷ an_integer true 1 2 ∷ replicate 4 (an_integer true 0 1) ++ replicate 5 a_given_real
          ++ replicate 3 a_weight ++ replicate 9 a_given_real
          ++ replicate 2 a_given_real ++ replicate 3 a_real ++ count ∷ count ∷ [],
    )
    ∷ (
      entity 144 (i 1 ∷ default ∷ i 1 ∷ []),
      q ∷ an_integer false 0 1 ∷ count ∷ a_reference true entry142 ∷ a_reference false entry142 ∷ count ∷ count ∷ [],
    )
    ∷ (entity 144 (i 1 ∷ i 1 ∷ []), q ∷ an_integer false 0 1 ∷ count ∷ a_reference false entry142 ∷ count ∷ count ∷ [])
    ∷ []

pub spelled-rows : map (λ (x : Entity × List Ask). asked x.0) rows ≡ map (λ (x : Entity × List Ask). x.1) rows
unfolding asked places_of bit_of paper
spelled-rows = refl
