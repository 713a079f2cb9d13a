-- The machine goes through the places that an entity's row spells, one after the other. Assumes nothing.
use mathlib.Core.Path.{◌≡◌, refl, sym, ap, ◌∙◌, subst, subst₂}
use mathlib.Core.Bool.{Bool, true, false, not, ◌&&◌, ◌||◌, false≢true}
use mathlib.Core.List.{List, [], ◌∷◌, ◌++◌}
use Prim.Native.Nat.{ℕ, zero, suc, ◌+◌, ◌-◌}
use native.Mathlib.Omega.{arith}
use lib.Dec.{eqb}
use lib.ListN.{drop, replicate}
use borrow.Author.Tests.{eqb-true, not-true}
use Rattle.layouts.specs.declared.Kind.{Kind}
use Rattle.layouts.specs.declared.Kind.TheVariants.{Rest}
use Rattle.layouts.specs.declared.Times.{Times}
use Rattle.layouts.specs.declared.Times.TheVariants.{Fixed, N, Knots1, Knots2, C, ThreeC}
use Rattle.layouts.specs.declared.LayoutPlace.{LayoutPlace}
use Rattle.layouts.specs.declared.LayoutState.{LayoutState}
use Rattle.values.specs.declared.Value.{Value}
use Rattle.values.specs.Value.{Item}
use Rattle.layouts.specs.Layout.{◌of◌}
use Rattle.layouts.specs.Table.{place_at}
use Rattle.layouts.specs.Machine.{times, rests, kind_at, enter, settle, onward, size}
use Rattle.layouts.specs.Fits.{Ask, refers_well, Told, uncounted, is_k1, is_k2, is_m1, is_m2, tells, put, Counts, counted, many, ask, value_at, Asks, close, spelled}
use Rattle.layouts.proofs.Tables.{and_both}
use Rattle.layouts.proofs.Moves.{follow-next, onward_same}
use Rattle.layouts.proofs.Empties.{settle-on, settle_stays}

-- ---- states

-- at place i with n of it left
abbrev pub standing : ℕ → ℕ → Counts → Bool → LayoutState
standing i n c b = record { at = i; left = n; k1 = c.k1; k2 = c.k2; m1 = c.m1; m2 = c.m2; bad = b }

-- the counts that a state holds
abbrev pub counts_of : LayoutState → Counts
counts_of s = record { k1 = s.k1; k2 = s.k2; m1 = s.m1; m2 = s.m2 }

-- coming to place i
abbrev pub arrived : ℕ → Counts → Bool → LayoutState
arrived i c b = settle (enter (standing i 0 c b))

times-many : (t : Times) (i n : ℕ) (c : Counts) (b : Bool) → times t (standing i n c b) ≡ many t c
times-many (Fixed m) i n c b = refl
times-many N i n c b = refl
times-many Knots1 i n c b = refl
times-many Knots2 i n c b = refl
times-many C i n c b = refl
times-many ThreeC i n c b = refl

-- a kind that tells no count
abbrev tells_none : Told → Bool
tells_none uncounted = true
tells_none is_k1 = false
tells_none is_k2 = false
tells_none is_m1 = false
tells_none is_m2 = false

untold : (t : Told) (n : ℕ) (c : Counts) → tells_none t ≡ true → put t n c ≡ c
untold uncounted n c e = refl
untold is_k1 n c e = absurd (false≢true e)
untold is_k2 n c e = absurd (false≢true e)
untold is_m1 n c e = absurd (false≢true e)
untold is_m2 n c e = absurd (false≢true e)

-- one of it
abbrev once : Times → Bool
once (Fixed n) = eqb n 1
once N = false
once Knots1 = false
once Knots2 = false
once C = false
once ThreeC = false

once-many : (t : Times) (c : Counts) → once t ≡ true → many t c ≡ 1
once-many (Fixed n) c e = eqb-true n 1 e
once-many N c e = absurd (false≢true e)
once-many Knots1 c e = absurd (false≢true e)
once-many Knots2 c e = absurd (false≢true e)
once-many C c e = absurd (false≢true e)
once-many ThreeC c e = absurd (false≢true e)

-- a place of a layout: not its end, and what tells a count stands alone
abbrev pub sound : LayoutPlace → Bool
sound p = not (rests p.kind) && (tells_none (tells p.kind) || once p.times)

-- from i to j the table has these places
pub data Placed : ℕ → List LayoutPlace → ℕ → Type 0 where
  placed-none : {i : ℕ} → Placed i [] i
  placed-next : {i j : ℕ} {p : LayoutPlace} {ps : List LayoutPlace} → place_at i ≡ p → sound p ≡ true → Placed (i + 1) ps j → Placed i (p ∷ ps) j

-- ---- places one after the other

module _ (types : List ℕ) where
  -- where it stands once its place took v
  abbrev pub taken : LayoutState → Value → LayoutState
  taken s v = standing s.at s.left (counted (kind_at s) v (counts_of s)) (s.bad || not (refers_well types (ask (kind_at s) (counts_of s)) v))

  -- from s on, value by value, the machine's places ask this, and then it rests
  abbrev pub Goes : LayoutState → List Item → List Ask → Type 0
  Goes s vs [] = place_at s.at ≡ Fixed 1 of Rest
  Goes s vs (a ∷ ps) = (ask (kind_at s) (counts_of s) ≡ a) × ((rests (kind_at s) ≡ false) × Goes (onward (taken s (value_at vs 0))) (drop 1 vs) ps)

  -- so it does from its coming to place i
  abbrev pub Agrees : ℕ → Asks → Type 0
  Agrees i more = (c : Counts) (b : Bool) (vs : List Item) → Goes (arrived i c b) vs (more c vs)

  -- ---- one place

  onward_last : (i : ℕ) (c : Counts) (b : Bool) → onward (standing i 1 c b) ≡ arrived (i + 1) c b
  unfolding onward
  onward_last i c b = ap (λ (s : LayoutState). settle (enter s)) (sym (follow-next (place_at i).next (standing i 1 c b)))

  onward-more : (i m : ℕ) (c : Counts) (b : Bool) → onward (standing i (suc (suc m)) c b) ≡ standing i (suc m) c b
  onward-more i m c b =
      let z : suc (suc m) - 1 ≡ suc m = omega arith in
      sym (onward_same (standing i (suc (suc m)) c b) (omega arith)) ∙ ap (λ (n : ℕ). standing i n c b) z

  drop-one : (m : ℕ) (vs : List Item) → drop m (drop 1 vs) ≡ drop (suc m) vs
  drop-one zero [] = refl
  drop-one (suc m) [] = refl
  drop-one m (v ∷ vs) = refl

  module _ (i : ℕ) (takes-values : rests (place_at i).kind ≡ false) (more : Asks) (next : Agrees (i + 1) more) where
    abbrev kind : Kind
    kind = (place_at i).kind

    -- one of it
    last : (c : Counts) (b : Bool) (vs : List Item) → Goes (standing i 1 c b) vs (ask kind c ∷ more (counted kind (value_at vs 0) c) (drop 1 vs))
    last c b vs =
        let d = counted kind (value_at vs 0) c in
        let w = b || not (refers_well types (ask kind c) (value_at vs 0)) in
        (refl, (takes-values, subst (λ (s : LayoutState). Goes s (drop 1 vs) (more d (drop 1 vs))) (sym (onward_last i d w)) (next d w (drop 1 vs))))

    -- many of it, of a kind that tells no count
    stretch : ((v : Value) (c : Counts) → counted kind v c ≡ c) → (m : ℕ) (c : Counts) (b : Bool) (vs : List Item)
        → Goes (standing i (suc m) c b) vs (replicate (suc m) (ask kind c) ++ more c (drop (suc m) vs))
    stretch same zero c b vs = subst (λ (d : Counts). Goes (standing i 1 c b) vs (ask kind c ∷ more d (drop 1 vs))) (same (value_at vs 0) c) (last c b vs)
    stretch same (suc m) c b vs =
        let w = b || not (refers_well types (ask kind c) (value_at vs 0)) in
        let e : onward (standing i (suc (suc m)) (counted kind (value_at vs 0) c) w) ≡ standing i (suc m) c w =
        ap (λ (d : Counts). onward (standing i (suc (suc m)) d w)) (same (value_at vs 0) c) ∙ onward-more i m c w in
        (refl, (takes-values, subst₂ (λ (s : LayoutState) (ws : List Item). Goes s (drop 1 vs) (replicate (suc m) (ask kind c) ++ more c ws)) (sym e) (drop-one (suc m) vs) (stretch same m c w (drop 1 vs))))

    some_here : (m : ℕ) (c : Counts) (b : Bool) → many (place_at i).times c ≡ suc m → arrived i c b ≡ standing i (suc m) c b
    some_here m c b e =
        let z = times-many (place_at i).times i 0 c b in
        settle_stays (standing i 0 c b) (omega arith) ∙ ap (λ (n : ℕ). standing i n c b) (z ∙ e)

    -- all of it, none too
    steady_segment : tells_none (tells kind) ≡ true → Agrees i (spelled (place_at i ∷ []) more)
    steady_segment k c b vs =
        subst (λ (d : Counts). Goes (arrived i c b) vs (replicate (many (place_at i).times c) (ask kind c) ++ more d (drop (many (place_at i).times c) vs))) (sym (same (value_at vs 0) c))
        (go (many (place_at i).times c) refl)
      where
        same : (v : Value) (c : Counts) → counted kind v c ≡ c
        same v c = untold (tells kind) (size v) c k

        go : (n : ℕ) → many (place_at i).times c ≡ n → Goes (arrived i c b) vs (replicate n (ask kind c) ++ more c (drop n vs))
        go zero e = subst (λ (s : LayoutState). Goes s vs (more c vs)) (sym (settle-on (standing i 0 c b) (times-many (place_at i).times i 0 c b ∙ e))) (next c b vs)
        go (suc m) e = subst (λ (s : LayoutState). Goes s vs (replicate (suc m) (ask kind c) ++ more c (drop (suc m) vs))) (sym (some_here m c b e)) (stretch same m c b vs)

    count_segment : ((c : Counts) → many (place_at i).times c ≡ 1) → Agrees i (spelled (place_at i ∷ []) more)
    count_segment one c b vs =
        subst₂ (λ (s : LayoutState) (n : ℕ). Goes s vs (replicate n (ask kind c) ++ more (counted kind (value_at vs 0) c) (drop n vs))) (sym (some_here 0 c b (one c))) (sym (one c)) (last c b vs)

    segment : sound (place_at i) ≡ true → Agrees i (spelled (place_at i ∷ []) more)
    segment e = go (tells_none (tells kind)) refl (and_both (not (rests kind)) (tells_none (tells kind) || once (place_at i).times) e).1
      where
        go : (t : Bool) → tells_none (tells kind) ≡ t → (t || once (place_at i).times) ≡ true → Agrees i (spelled (place_at i ∷ []) more)
        go true k o = steady_segment k
        go false k o = count_segment (λ c. once-many (place_at i).times c o)

  -- ---- a row

  -- these places, where the table has them
  pub segments : {i j : ℕ} {ps : List LayoutPlace} (more : Asks) → Placed i ps j → Agrees j more → Agrees i (spelled ps more)
  segments more placed-none h = h
  segments more (placed-next {i = i} {p = p} {ps = ps} here e r) h =
      let f : sound (place_at i) ≡ true = ap sound here ∙ e in
      subst (λ (p : LayoutPlace). Agrees i (spelled (p ∷ []) (spelled ps more))) here
      (segment i (not-true (rests (place_at i).kind) (and_both (not (rests (place_at i).kind)) _ f).0) (spelled ps more) (segments more r h) f)

  -- the rest of a row
  pub closing : (j : ℕ) → place_at j ≡ Fixed 1 of Rest → Agrees j close
  closing j here c b vs =
      let z : times (place_at j).times (standing j 0 c b) ≡ 1 = ap (λ (q : LayoutPlace). times q.times (standing j 0 c b)) here in
      ap (λ (s : LayoutState). place_at s.at) (settle_stays (standing j 0 c b) (omega arith)) ∙ here
