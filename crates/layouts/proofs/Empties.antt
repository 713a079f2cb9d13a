-- No two places of which there may be none stand side by side, so passing one is enough. Assumes nothing.
use mathlib.Core.Path.{◌≡◌, refl, sym, ap, ◌∙◌}
use mathlib.Core.Bool.{Bool, true, false, not, ◌&&◌, false≢true}
use Prim.Native.Nat.{ℕ, ◌+◌, ◌*◌, ◌≤◌}
use native.Mathlib.Nat.{mul-pos}
use native.Mathlib.Omega.{arith}
use lib.Dec.{eqb, ltb}
use borrow.Author.Tests.{eqb-true, eqb-false, ltb-true, ltb-false}
use Rattle.layouts.specs.declared.Times.{Times}
use Rattle.layouts.specs.declared.Times.TheVariants.{Fixed, N, Knots1, Knots2, C, ThreeC}
use Rattle.layouts.specs.declared.LayoutPlace.{LayoutPlace}
use Rattle.layouts.specs.declared.LayoutState.{LayoutState}
use Rattle.layouts.specs.Layout.{paper}
use Rattle.layouts.specs.Table.{table, place_at}
use Rattle.layouts.specs.Machine.{times, stand, enter, beyond, settle}
use Rattle.layouts.proofs.Tables.{up_to, up_to_at, past}
use Rattle.layouts.proofs.Moves.{follow-next, settle-past, settle-here}

-- there may be none of it
abbrev pub may_lack : Times → Bool
may_lack (Fixed n) = eqb n 0
may_lack N = true
may_lack Knots1 = false
may_lack Knots2 = false
may_lack C = false
may_lack ThreeC = false

pub some : (t : Times) (s : LayoutState) → may_lack t ≡ false → 1 ≤ times t s
some (Fixed n) s e = let z = eqb-false n 0 e in omega arith
some N s e = absurd (false≢true (sym e))
some Knots1 s e = omega arith
some Knots2 s e = omega arith
some C s e = mul-pos (omega arith) (omega arith)
some ThreeC s e = let h : 1 ≤ (s.k1 + 1) * (s.k2 + 1) = mul-pos (omega arith) (omega arith) in omega arith

apart : ℕ → Bool
apart i = not (may_lack (place_at i).times && may_lack (place_at (i + 1)).times)

all_apart : up_to 116 apart ≡ true
unfolding apart place_at table paper
all_apart = refl

-- in the whole table
pub lone-gap : (i : ℕ) → may_lack (place_at i).times ≡ true → may_lack (place_at (i + 1)).times ≡ false
unfolding apart
lone-gap i e = go (ltb i 116) refl
  where
    second : (a b : Bool) → a ≡ true → not (a && b) ≡ true → b ≡ false
    second true true p q = absurd (false≢true q)
    second true false p q = refl
    second false b p q = absurd (false≢true p)

    go : (b : Bool) → ltb i 116 ≡ b → may_lack (place_at (i + 1)).times ≡ false
    go true h = second (may_lack (place_at i).times) (may_lack (place_at (i + 1)).times) e (up_to_at 116 apart i all_apart (ltb-true i 116 h))
    go false h = absurd (false≢true (ap (λ (p : LayoutPlace). may_lack p.times) (sym (past i (ltb-false i 116 h))) ∙ e))

-- no times: so there may be none
lacking : (t : Times) (s : LayoutState) → times t s ≡ 0 → may_lack t ≡ true
lacking t s e = go (may_lack t) refl
  where
    go : (b : Bool) → may_lack t ≡ b → b ≡ true
    go true h = refl
    go false h = let z = some t s h in absurd (omega arith)

-- what `settle` comes to behind an empty place is not empty
next_some : (u : LayoutState) → times (place_at u.at).times u ≡ 0 → 1 ≤ (beyond (enter u)).left
next_some u e = rw (← follow-next (place_at u.at).next (enter u)) (some (place_at (u.at + 1)).times (stand u (u.at + 1) 0) (lone-gap u.at (lacking (place_at u.at).times u e)))

-- where there is none of a place, it settles where it would at the next
pub settle-on : (u : LayoutState) → times (place_at u.at).times u ≡ 0 → settle (enter u) ≡ settle (enter (stand u (u.at + 1) 0))
settle-on u e =
    let h = next_some u e in
    sym (settle-past (enter u) (beyond (enter u)) e refl) ∙ settle-here (beyond (enter u)) (λ z. omega arith)
    ∙ ap (λ (x : LayoutState). settle (enter x)) (sym (follow-next (place_at u.at).next (enter u)))

pub settle_stays : (u : LayoutState) → 1 ≤ times (place_at u.at).times u → settle (enter u) ≡ enter u
settle_stays u h = sym (settle-here (enter u) (λ z. omega arith))

-- wherever it settles, a value is to come: `settle` never has a second empty place to pass
pub settled : (u : LayoutState) → 1 ≤ (settle (enter u)).left
settled u = go (eqb (times (place_at u.at).times u) 0) refl
  where
    go : (b : Bool) → eqb (times (place_at u.at).times u) 0 ≡ b → 1 ≤ (settle (enter u)).left
    go true e = let z = eqb-true (times (place_at u.at).times u) 0 e in rw (← settle-past (enter u) (beyond (enter u)) z refl) (next_some u z)
    go false e = let z = eqb-false (times (place_at u.at).times u) 0 e in rw (settle_stays u (omega arith)) (omega arith)
