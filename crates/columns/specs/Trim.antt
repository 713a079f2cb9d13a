-- A list without what stands at its end and passes a test.
use Rattle.std.specs.Prelude.{Bool, cond, List, [], ◌∷◌}

-- x in front of what is left
abbrev pub trim_onto : {A : Type 0} → (A → Bool) → A → List A → List A
trim_onto test x [] = cond (test x) [] (x ∷ [])
trim_onto test x (y ∷ ys) = x ∷ (y ∷ ys)

-- without those at the end that pass the test
abbrev pub trim_end : {A : Type 0} → (A → Bool) → List A → List A
trim_end test [] = []
trim_end test (x ∷ xs) = trim_onto test x (trim_end test xs)
