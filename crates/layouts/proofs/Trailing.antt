-- A default more at the end of an entity says nothing, and the sixteen turns of `end` are enough. Assumes nothing.
use mathlib.Core.Path.{◌≡◌, refl, sym, ap, ap₂, ◌∙◌}
use mathlib.Core.Bool.{Bool, true, false, cond, not, ◌||◌, ◌&&◌, false≢true}
use mathlib.Core.List.{List, [], ◌∷◌}
use Prim.Native.Nat.{ℕ, zero, suc, ◌+◌, ◌-◌, ◌≤◌, ◌<◌}
use native.Mathlib.Nat.{le_refl, le_of_lt, not-suc-le-zero}
use native.Mathlib.Omega.{arith}
use lib.Dec.{eqb, leb, ltb}
use lib.ListN.{length, get_or, get_or-eq_default}
use borrow.Author.Tests.{leb-true, eqb-true, ltb-true, ltb-false}
use Rattle.layouts.specs.declared.Kind.{Kind}
use Rattle.layouts.specs.declared.Kind.TheVariants.{R, Given, Weight, S, I, Flag, Count, Outer, Upper1, Upper2, Degree1, Degree2, P, Q, Bound, Rest}
use Rattle.layouts.specs.declared.Times.{Times}
use Rattle.layouts.specs.declared.Times.TheVariants.{Fixed, N, Knots1, Knots2, C, ThreeC}
use Rattle.layouts.specs.declared.Then.{Then}
use Rattle.layouts.specs.declared.Then.TheVariants.{Next}
use Rattle.layouts.specs.declared.LayoutPlace.{LayoutPlace}
use Rattle.values.specs.declared.Value.TheVariants.{Default}
use Rattle.layouts.specs.declared.LayoutState.{LayoutState}
use Rattle.std.specs.Prelude.{Option, Some, None}
use Rattle.layouts.specs.Layout.{paper}
use Rattle.layouts.specs.Table.{table, place_at}
use Rattle.layouts.specs.Machine.{takes, times, stand, settle, onward, rests, kind_at, moved, step, after, finish, end, with_k1, with_k2, with_bad, follow, enter, beyond, if_empty}
use Rattle.layouts.specs.Walk.{ended}
use Rattle.layouts.proofs.Tables.{and_both, up_to, up_to_at, past}
use Rattle.layouts.proofs.Steps.{not_rest, stays}

-- ---- a default at a place that took one changes nothing

abbrev state : Option LayoutState → LayoutState → LayoutState
state (Some t) s = t
state None s = s

never : {A : Type 0} (t : LayoutState) → None ≡ Some t → A
never t e = let z : ◌≡◌ {A = ℕ} 0 1 = cc in absurd (no z)
  where
    no : ◌≡◌ {A = ℕ} 0 1 → ⊥
    no z = omega arith

or-false : (b : Bool) → (b || false) ≡ b
or-false true = refl
or-false false = refl

or_true : (b : Bool) → (b || true) ≡ true
or_true true = refl
or_true false = refl

or_again : (b x : Bool) → ((b || x) || x) ≡ (b || x)
or_again true x = refl
or_again false true = refl
or_again false false = refl

idle : (k : Kind) (s t : LayoutState) (i n : ℕ) → takes k s Default 0 ≡ Some t → takes k (stand t i n) Default 0 ≡ Some (stand t i n)
unfolding takes
idle R s t i n e = refl
idle Given s t i n e = never t e
idle Weight s t i n e = never t e
idle S s t i n e = refl
idle (I low high) s t i n e = go (eqb low 0) e
  where
    go : (b : Bool) → cond b (Some s) None ≡ Some t → cond b (Some (stand t i n)) None ≡ Some (stand t i n)
    go true e = refl
    go false e = never t e
idle Flag s t i n e = never t e
idle Count s t i n e = ap (λ (x : LayoutState). Some (with_k1 (stand t i n) x.k1)) (ap (λ (g : Option LayoutState). state g s) e)
idle Outer s t i n e = ap (λ (x : LayoutState). Some (with_k2 (stand t i n) x.k2)) (ap (λ (g : Option LayoutState). state g s) e)
idle Upper1 s t i n e = never t e
idle Upper2 s t i n e = never t e
idle Degree1 s t i n e = never t e
idle Degree2 s t i n e = never t e
idle (P want) s t i n e = ap (λ (b : Bool). Some (with_bad (stand t i n) b)) (or-false t.bad)
idle (Q want) s t i n e =
    let q : (s.bad || true) ≡ t.bad = ap (λ (g : Option LayoutState). (state g s).bad) e in
    ap (λ (b : Bool). Some (with_bad (stand t i n) b)) (or_true t.bad ∙ sym (or_true s.bad) ∙ q)
idle (Bound want) s t i n e =
    let x = not (not (eqb s.k2 1)) in
    let q : (s.bad || x) ≡ t.bad = ap (λ (g : Option LayoutState). (state g s).bad) e in
    let k : s.k2 ≡ t.k2 = ap (λ (g : Option LayoutState). (state g s).k2) e in
    ap (λ (b : Bool). Some (with_bad (stand t i n) b))
    (ap₂ (λ (b : Bool) (m : ℕ). b || not (not (eqb m 1))) (sym q) (sym k) ∙ or_again s.bad x ∙ q)
idle Rest s t i n e = refl

-- ---- how far it is to the end of a row

-- defaults stop at the rest, which is one place, so it is never passed over
abbrev lone : Times → Bool
lone (Fixed n) = eqb n 1
lone N = false
lone Knots1 = false
lone Knots2 = false
lone C = false
lone ThreeC = false

lone-times : (t : Times) (s : LayoutState) → lone t ≡ true → times t s ≡ 1
lone-times (Fixed n) s e = eqb-true n 1 e
lone-times N s e = absurd (false≢true e)
lone-times Knots1 s e = absurd (false≢true e)
lone-times Knots2 s e = absurd (false≢true e)
lone-times C s e = absurd (false≢true e)
lone-times ThreeC s e = absurd (false≢true e)

-- a number for each place that falls along every way that defaults can go
abbrev from : LayoutPlace → List ℕ → ℕ
from p rs = cond (rests p.kind) 0 (suc (get_or rs 0 0))

abbrev ranks : List LayoutPlace → List ℕ
ranks [] = []
ranks (p ∷ ps) = let rs = ranks ps in from p rs ∷ rs

rank : ℕ → ℕ
rank i = get_or (ranks table) i 0

drops : ℕ → Then → Bool
drops i Next = ltb (rank (i + 1)) (rank i)

fair : ℕ → Bool
fair i = (rests (place_at i).kind || drops i (place_at i).next) && ((not (rests (place_at i).kind) || lone (place_at i).times) && leb (rank i) 14)

all_fair : up_to 116 fair ≡ true
unfolding fair drops rank place_at table paper
all_fair = refl

rank_length : length (ranks table) ≡ 116
unfolding table paper
rank_length = refl

rank_past : (i : ℕ) → 116 ≤ i → rank i ≡ 0
unfolding rank
rank_past i h = get_or-eq_default (ranks table) 0 (rw rank_length h)

if_not : (a b : Bool) → a ≡ false → (a || b) ≡ true → b ≡ true
if_not true b e h = absurd (false≢true (sym e))
if_not false b e h = h

if_so : (a b : Bool) → a ≡ true → (not a || b) ≡ true → b ≡ true
if_so true b e h = h
if_so false b e h = absurd (false≢true e)

module _ (i : ℕ) where
  abbrev stop : Bool
  stop = rests (place_at i).kind

  is_fair : i < 116 → fair i ≡ true
  is_fair h = up_to_at 116 fair i all_fair h

  inside-table : stop ≡ false → i < 116
  inside-table e = not_rest i e

  falls : stop ≡ false → drops i (place_at i).next ≡ true
  unfolding fair
  falls e = if_not stop (drops i (place_at i).next) e (and_both (stop || drops i (place_at i).next) _ (is_fair (inside-table e))).0

  -- past the table all is rest
  stop-lone : stop ≡ true → lone (place_at i).times ≡ true
  unfolding fair
  stop-lone e = go (ltb i 116) refl
    where
      go : (b : Bool) → ltb i 116 ≡ b → lone (place_at i).times ≡ true
      go true h = if_so stop (lone (place_at i).times) e (and_both (not stop || lone (place_at i).times) (leb (rank i) 14) (and_both (stop || drops i (place_at i).next) _ (is_fair (ltb-true i 116 h))).1).0
      go false h = ap (λ (p : LayoutPlace). lone p.times) (past i (ltb-false i 116 h))

  rank_low : rank i ≤ 14
  unfolding fair
  rank_low = go (ltb i 116) refl
    where
      go : (b : Bool) → ltb i 116 ≡ b → rank i ≤ 14
      go true h = leb-true (rank i) 14 (and_both (not stop || lone (place_at i).times) (leb (rank i) 14) (and_both (stop || drops i (place_at i).next) _ (is_fair (ltb-true i 116 h))).1).1
      go false h = let z = rank_past i (ltb-false i 116 h) in omega arith

follow-falls : (s : LayoutState) (x : Then) → drops s.at x ≡ true → rank (follow x s).at < rank s.at
unfolding drops
follow-falls s Next e = ltb-true (rank (s.at + 1)) (rank s.at) e

beyond-falls : (s : LayoutState) → rests (kind_at s) ≡ false → rank (beyond s).at < rank s.at
beyond-falls s e = follow-falls s (place_at s.at).next (falls s.at e)

settle-falls : (u : LayoutState) → rank (settle (enter u)).at ≤ rank u.at
unfolding settle
settle-falls u = go (eqb (times (place_at u.at).times u) 0) refl
  where
    pick : (r : Bool) → rests (kind_at u) ≡ r → times (place_at u.at).times u ≡ 0 → rank (beyond (enter u)).at ≤ rank u.at
    pick true e z = let o = lone-times (place_at u.at).times u (stop-lone u.at e) in omega arith
    pick false e z = le_of_lt (beyond-falls (enter u) e)

    go : (b : Bool) → eqb (times (place_at u.at).times u) 0 ≡ b → rank (if_empty b (beyond (enter u)) (enter u)).at ≤ rank u.at
    go true e = pick (rests (kind_at u)) refl (eqb-true (times (place_at u.at).times u) 0 e)
    go false e = le_refl (rank u.at)

-- ---- more turns change nothing

next_low : (s t : LayoutState) (n : ℕ) → rests (kind_at s) ≡ false → takes (kind_at s) s Default 0 ≡ Some t → rank s.at < suc n → rank (settle (beyond t)).at < n
next_low s t n r e h =
    let q = stays (kind_at s) s t Default 0 e in
    let f : rests (kind_at t) ≡ false = ap (λ (i : ℕ). rests (place_at i).kind) q ∙ r in
    let a = beyond-falls t f in
    let b = settle-falls (follow (place_at t.at).next t) in
    let c : rank t.at ≡ rank s.at = ap rank q in
    omega arith

stable : (n : ℕ) (s : LayoutState) → rank s.at < n → finish n s ≡ finish (suc n) s
unfolding finish
stable zero s h = absurd (not-suc-le-zero h)
stable (suc n) s h = go (rests (kind_at s)) (takes (kind_at s) s Default 0) refl refl (λ x. stable n x)
  where
    go : (b : Bool) (g : Option LayoutState) → rests (kind_at s) ≡ b → takes (kind_at s) s Default 0 ≡ g → ((x : LayoutState) → rank x.at < n → finish n x ≡ finish (suc n) x)
        → after b g (λ (t : LayoutState). finish n (settle (beyond t))) ≡ after b g (λ (t : LayoutState). finish (suc n) (settle (beyond t)))
    go b None r e ih = refl
    go true (Some t) r e ih = refl
    go false (Some t) r e ih = ih (settle (beyond t)) (next_low s t n r e h)

-- the turns of `end` are enough: with any number more it says the same
pub enough : (n : ℕ) (s : LayoutState) → finish (16 + n) s ≡ end s
unfolding end
enough zero s = refl
enough (suc n) s =
    let m : 16 + suc n ≡ suc (16 + n) = omega arith in
    ap (λ (k : ℕ). finish k s) m ∙ sym (stable (16 + n) s (omega (arith, rank_low s.at))) ∙ enough n s

-- ---- a default more

follow-stand : (x : Then) (t : LayoutState) (n : ℕ) → follow x (stand t t.at n) ≡ follow x t
follow-stand Next t n = refl

beyond-stand : (t : LayoutState) (n : ℕ) → beyond (stand t t.at n) ≡ beyond t
beyond-stand t n = ap enter (follow-stand (place_at t.at).next t n)

finish-at : (n : ℕ) (s : LayoutState) (b : Bool) (g : Option LayoutState) → rests (kind_at s) ≡ b → takes (kind_at s) s Default 0 ≡ g
    → finish (suc n) s ≡ after b g (λ (t : LayoutState). finish n (settle (beyond t)))
unfolding finish
finish-at n s b g r e = ap₂ (λ (x : Bool) (y : Option LayoutState). after x y (λ (t : LayoutState). finish n (settle (beyond t)))) r e

pub trailing : (s : LayoutState) → ended (step s Default 0) ≡ end s
unfolding step end onward
trailing s = go (rests (kind_at s)) (takes (kind_at s) s Default 0) refl refl ∙ sym (finish-at 15 s (rests (kind_at s)) (takes (kind_at s) s Default 0) refl refl)
  where
    same_kind : (t : LayoutState) (n : ℕ) → t.at ≡ s.at → kind_at (stand t t.at n) ≡ kind_at s
    same_kind t n e = ap (λ (i : ℕ). (place_at i).kind) e

    idles : (t : LayoutState) (n : ℕ) (b : Bool) → rests (kind_at s) ≡ b → takes (kind_at s) s Default 0 ≡ Some t
        → finish 16 (stand t t.at n) ≡ after b (Some (stand t t.at n)) (λ (u : LayoutState). finish 15 (settle (beyond u)))
    idles t n b r e =
        let q = same_kind t n (stays (kind_at s) s t Default 0 e) in
        finish-at 15 (stand t t.at n) b (Some (stand t t.at n)) (ap rests q ∙ r)
        (ap (λ (k : Kind). takes k (stand t t.at n) Default 0) q ∙ idle (kind_at s) s t t.at n e)

    on : (t : LayoutState) (c : Bool) → ltb 1 t.left ≡ c → rests (kind_at s) ≡ false → takes (kind_at s) s Default 0 ≡ Some t
        → finish 16 (cond c (stand t t.at (t.left - 1)) (settle (beyond t))) ≡ finish 15 (settle (beyond t))
    on t true l r e = idles t (t.left - 1) false r e ∙ ap (λ (x : LayoutState). finish 15 (settle x)) (beyond-stand t (t.left - 1))
    on t false l r e = sym (stable 15 (settle (beyond t)) (next_low s t 15 r e (omega (arith, rank_low s.at))))

    go : (b : Bool) (g : Option LayoutState) → rests (kind_at s) ≡ b → takes (kind_at s) s Default 0 ≡ g
        → ended (moved b g) ≡ after b g (λ (t : LayoutState). finish 15 (settle (beyond t)))
    go b None r e = refl
    go true (Some t) r e = idles t t.left true r e
    go false (Some t) r e = on t (ltb 1 t.left) refl r e
