-- Values of which the last is given, with and without their marks.
use mathlib.Core.Path.{◌≡◌, refl}
use mathlib.Core.Bool.{Bool, true, false, cond}
use mathlib.Core.List.{List, [], ◌∷◌, map}
use Prim.Native.Nat.{ℕ}
use native.Mathlib.Omega.{arith}
use Rattle.values.specs.Value.{Item, is_default}
use Rattle.records.specs.Record.{trim, trimmed}
use Rattle.sheets.specs.WellFormed.{ends_default}
use Rattle.model.specs.Model.{value_in}

-- behind the first value too the last is given
trimmed-tail : (v : Item) (vs : List Item) → trimmed (v ∷ vs) ≡ v ∷ vs → trimmed vs ≡ vs
trimmed-tail v vs h = pick (trimmed vs) (is_default v) refl h
  where
    pick : (us : List Item) (b : Bool) → is_default v ≡ b → trim v us ≡ v ∷ vs → us ≡ vs
    pick [] true e k = let k' : ◌≡◌ {A = List Item} [] (v ∷ vs) = rw e at k in let z : ◌≡◌ {A = ℕ} 0 1 = cc in absurd (omega arith)
    pick [] false e k = let k' : ◌≡◌ {A = List Item} (v ∷ []) (v ∷ vs) = rw e at k in (cc)
    pick (u ∷ us) b e k = (cc)

trimmed-one : (v : Item) → trimmed (v ∷ []) ≡ v ∷ [] → is_default v ≡ false
trimmed-one v h = pick (is_default v) refl h
  where
    pick : (b : Bool) → is_default v ≡ b → cond b [] (v ∷ []) ≡ v ∷ [] → b ≡ false
    pick true e k = let z : ◌≡◌ {A = ℕ} 0 1 = cc in absurd (omega arith)
    pick false e k = refl

-- values of which the last is given don't end with a default
pub ends_given : (ws : List (Bool × Item)) → trimmed (map value_in ws) ≡ map value_in ws → ends_default false ws ≡ false
unfolding ends_default
ends_given [] h = refl
ends_given (w ∷ []) h = trimmed-one w.1 h
ends_given (w ∷ (u ∷ us)) h = ends_given (u ∷ us) (trimmed-tail w.1 (map value_in (u ∷ us)) h)

-- and the other way round
given-behind : (w : Bool × Item) (ws : List (Bool × Item)) → ends_default (is_default w.1) ws ≡ false → trimmed (map value_in (w ∷ ws)) ≡ map value_in (w ∷ ws)
unfolding ends_default
given-behind w [] h = rw h
given-behind w (u ∷ us) h = rw (given-behind u us h)

pub given_ends : (ws : List (Bool × Item)) → ends_default false ws ≡ false → trimmed (map value_in ws) ≡ map value_in ws
unfolding ends_default
given_ends [] h = refl
given_ends (w ∷ ws) h = given-behind w ws h
