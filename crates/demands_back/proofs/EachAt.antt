-- A walk accepts its list if it accepts each element wherever it stands. Assumes nothing.
use mathlib.Core.Path.{◌≡◌, refl}
use mathlib.Core.List.{List, [], ◌∷◌}
use Prim.Native.Nat.{ℕ, ◌+◌}
use Rattle.columns.specs.Refusal.{Outcome, accepted, each_at}

-- what is made of each, one by one
pub data Makes {A B : Type 0} (f : ℕ → A → Outcome B) : List A → List B → Type 0 where
  makes_none : Makes f [] []
  makes_one : {x : A} {y : B} {xs : List A} {ys : List B} → ((place : ℕ) → f place x ≡ accepted y) → Makes f xs ys → Makes f (x ∷ xs) (y ∷ ys)

pub each_made : {A B : Type 0} (takes : A → ℕ) (f : ℕ → A → Outcome B) {xs : List A} {ys : List B} → Makes f xs ys → (place : ℕ) → each_at takes f place xs ≡ accepted ys
unfolding each_at
each_made takes f makes_none place = refl
each_made takes f (makes_one {x} {y} {xs} {ys} h hs) place = rw (h place, each_made takes f hs (place + takes x))
