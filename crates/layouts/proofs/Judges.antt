-- What the machine says of an entity, and which values it marks, told by what its places ask. Assumes nothing.
use mathlib.Core.Path.{◌≡◌, refl, sym, ap, ap₂, ◌∙◌}
use mathlib.Core.Bool.{Bool, true, false, cond, not, ◌&&◌, ◌||◌, or-false}
use mathlib.Core.List.{List, [], ◌∷◌}
use Prim.Native.Nat.{ℕ, suc, ◌-◌}
use lib.Dec.{eqb, ltb}
use lib.ListN.{drop}
use borrow.Author.Tests.{eqb-false, ne_eqb}
use Rattle.layouts.specs.declared.Kind.{Kind}
use Rattle.layouts.specs.declared.Kind.TheVariants.{R, Given, Weight, S, I, Flag, Count, Outer, Upper1, Upper2, Degree1, Degree2, P, Q, Bound, Rest}
use Rattle.layouts.specs.declared.Times.TheVariants.{Fixed}
use Rattle.layouts.specs.declared.LayoutPlace.{LayoutPlace}
use Rattle.layouts.specs.declared.LayoutState.{LayoutState}
use Rattle.std.specs.Prelude.{Option, Some, None, Err}
use Rattle.columns.specs.declared.Fault.TheVariants.{Layout}
use Rattle.layouts.specs.Verdict.{Verdict}
use Rattle.values.specs.declared.Value.{Value}
use Rattle.values.specs.declared.Value.TheVariants.{Default, Whole, Real, Text}
use Rattle.values.specs.Value.{Item, seen, is_missing}
use Rattle.references.specs.References.{fits}
use Rattle.layouts.specs.Named.{named}
use Rattle.layouts.specs.Layout.{◌of◌}
use Rattle.layouts.specs.Table.{place_at}
use Rattle.layouts.specs.Tests.{integer, numeric, above, text, within}
use Rattle.layouts.specs.Machine.{need, refer, takes, rests, refers, kind_at, moved, step, closed, after, finish, end, follow, enter, beyond, if_empty, settle, onward}
use Rattle.layouts.specs.Entities.{everywhere, reference_places}
use Rattle.layouts.specs.Walk.{run, verdict_from, marks_from}
use Rattle.layouts.specs.Fits.{Ask, suits, nought, refers_well, is_reference, Counts, counted, ask, value_at, ask_at}
use Rattle.layouts.proofs.Moves.{follow-next}
use Rattle.layouts.proofs.Trailing.{trailing}
use Rattle.layouts.proofs.Agrees.{standing, counts_of, taken, Goes}

no_class : (want : ℕ) → fits want 0 ≡ false
no_class want = go (eqb want 0) refl
  where
    go : (b : Bool) → eqb want 0 ≡ b → cond b false (eqb 0 want) ≡ false
    go true e = refl
    go false e = let h = eqb-false want 0 e in ne_eqb 0 want (λ z. h (sym z))

both : (b suit refer suits refers : Bool)
    → cond suit (cond suits (closed ((b || not refer) || not refers)) (Err Layout)) (Err Layout) ≡ cond (suit && suits) (closed (b || not (refer && refers))) (Err Layout)
both b false refer suits refers = refl
both true true refer suits refers = refl
both false true true suits refers = refl
both false true false suits refers = refl

-- moving on forgets no wrong reference
settle_bad : (u : LayoutState) → (settle (enter u)).bad ≡ u.bad
unfolding settle
settle_bad u = go (eqb (enter u).left 0)
  where
    go : (t : Bool) → (if_empty t (beyond (enter u)) (enter u)).bad ≡ u.bad
    go true = ap (λ (s : LayoutState). s.bad) (sym (follow-next (place_at u.at).next (enter u)))
    go false = refl

onward_bad : (s : LayoutState) → (onward s).bad ≡ s.bad
unfolding onward
onward_bad s = go (ltb 1 s.left)
  where
    go : (t : Bool) → (cond t (standing s.at (s.left - 1) (counts_of s) s.bad) (settle (beyond s))).bad ≡ s.bad
    go true = refl
    go false = settle_bad (follow (place_at s.at).next s) ∙ ap (λ (s : LayoutState). s.bad) (sym (follow-next (place_at s.at).next s))

module _ (types : List ℕ) where
  -- what is said of places and values; b: a reference was wrong before
  abbrev said : Bool → List Ask → List Item → Verdict
  said b ps vs = cond (everywhere suits ps vs) (closed (b || not (everywhere (refers_well types) ps vs))) (Err Layout)

  -- ---- a place takes a value

  module _ (i n : ℕ) (c : Counts) (b : Bool) where
    plain : (t : Bool) (d : Counts) → need t (standing i n d b) ≡ need t (standing i n d (b || false))
    plain t d = ap (λ (x : Bool). need t (standing i n d x)) (sym (or-false b))

    refer-is : (free : Bool) (want : ℕ) (v : Value) → refer free want (standing i n c b) v (named types v)
        ≡ need (integer v || is_missing v) (standing i n c (b || not ((free && nought v) || fits want (named types v))))
    unfolding named
    refer-is true want Default = refl
    refer-is false want Default = ap (λ (x : Bool). Some (standing i n c (b || not x))) (sym (no_class want))
    refer-is free want (Whole neg m) = refl
    refer-is free want (Real neg m eneg e double) = refl
    refer-is free want (Text start count) = refl

    takes-is : (k : Kind) (v : Value) → takes k (standing i n c b) v (named types v)
        ≡ need (suits (ask k c) v) (standing i n (counted k v c) (b || not (refers_well types (ask k c) v)))
    unfolding takes
    takes-is R v = plain (numeric v || is_missing v) c
    takes-is Given v = plain (numeric v) c
    takes-is Weight v = plain (above v) c
    takes-is S v = plain (text v || is_missing v) c
    takes-is (I low high) v = plain (within false low high v) c
    takes-is Flag v = plain (within true 0 1 v) c
    takes-is Count v = plain (suits (ask Count c) v) (counted Count v c)
    takes-is Outer v = plain (suits (ask Outer c) v) (counted Outer v c)
    takes-is Upper1 v = plain (suits (ask Upper1 c) v) (counted Upper1 v c)
    takes-is Upper2 v = plain (suits (ask Upper2 c) v) (counted Upper2 v c)
    takes-is Degree1 v = plain (suits (ask Degree1 c) v) (counted Degree1 v c)
    takes-is Degree2 v = plain (suits (ask Degree2 c) v) (counted Degree2 v c)
    takes-is (P want) v = refer-is true want v
    takes-is (Q want) v = refer-is false want v
    takes-is (Bound want) v = refer-is (not (eqb c.k2 1)) want v
    takes-is Rest v = plain (is_missing v) c

  -- a step at a place, and at the rest
  step-takes : (s : LayoutState) (v : Value) → rests (kind_at s) ≡ false → step s v (named types v) ≡ moved false (need (suits (ask (kind_at s) (counts_of s)) v) (taken types s v))
  unfolding step
  step-takes s v r = ap₂ moved r (takes-is s.at s.left (counts_of s) s.bad (kind_at s) v)

  step-rests : (s : LayoutState) (v : Value) → place_at s.at ≡ Fixed 1 of Rest → step s v (named types v) ≡ moved true (need (is_missing v) s)
  unfolding step takes
  step-rests s v h = ap (λ (q : LayoutPlace). moved (rests q.kind) (takes q.kind s v (named types v))) h

  -- ---- the verdict

  -- one value more, or a default where none is left
  unroll : (s : LayoutState) (vs : List Item) → verdict_from types (Some s) vs ≡ verdict_from types (step s (value_at vs 0) (named types (value_at vs 0))) (drop 1 vs)
  unfolding verdict_from run named
  unroll s [] = sym (trailing s)
  unroll s (v ∷ vs) = refl

  lost : (vs : List Item) → verdict_from types None vs ≡ Err Layout
  unfolding verdict_from run
  lost [] = refl
  lost (v ∷ vs) = lost vs

  rests-on : (s : LayoutState) → place_at s.at ≡ Fixed 1 of Rest → (vs : List Item) → verdict_from types (Some s) vs ≡ said s.bad [] vs
  unfolding verdict_from run end finish takes everywhere
  rests-on s h [] =
      ap (λ (q : LayoutPlace). after (rests q.kind) (takes q.kind s Default 0) (λ (t : LayoutState). finish 15 (settle (beyond t)))) h ∙ ap closed (sym (or-false s.bad))
  rests-on s h (v ∷ vs) = ap (λ (g : Option LayoutState). verdict_from types g vs) (step-rests s (seen v) h) ∙ go (is_missing (seen v)) (rests-on s h vs)
    where
      go : (t : Bool) → verdict_from types (Some s) vs ≡ said s.bad [] vs
          → verdict_from types (moved true (need t s)) vs ≡ cond (t && everywhere suits [] vs) (closed (s.bad || not (everywhere (refers_well types) [] vs))) (Err Layout)
      go true ih = ih
      go false ih = lost vs

  -- what is said of a place and of those behind it
  said-next : (b : Bool) (a : Ask) (ps : List Ask) (vs : List Item)
      → cond (suits a (value_at vs 0)) (said (b || not (refers_well types a (value_at vs 0))) ps (drop 1 vs)) (Err Layout) ≡ said b (a ∷ ps) vs
  unfolding everywhere
  said-next b a ps [] = both b (suits a Default) (refers_well types a Default) (everywhere suits ps []) (everywhere (refers_well types) ps [])
  said-next b a ps (v ∷ vs) = both b (suits a (seen v)) (refers_well types a (seen v)) (everywhere suits ps vs) (everywhere (refers_well types) ps vs)

  pub goes_verdict : (ps : List Ask) (s : LayoutState) (vs : List Item) → Goes types s vs ps → verdict_from types (Some s) vs ≡ said s.bad ps vs
  goes_verdict [] s vs h = rests-on s h vs
  goes_verdict (a ∷ ps) s vs h =
      let v = value_at vs 0 in
      let t = taken types s v in
      unroll s vs ∙ ap (λ (g : Option LayoutState). verdict_from types g (drop 1 vs)) (step-takes s v h.1.0)
      ∙ go (suits (ask (kind_at s) (counts_of s)) v) t (goes_verdict ps (onward t) (drop 1 vs) h.1.1 ∙ ap (λ (b : Bool). said b ps (drop 1 vs)) (onward_bad t))
      ∙ ap (λ (x : Ask). cond (suits x v) (said (s.bad || not (refers_well types x v)) ps (drop 1 vs)) (Err Layout)) h.0
      ∙ said-next s.bad a ps vs
    where
      go : (b : Bool) (t : LayoutState) → verdict_from types (Some (onward t)) (drop 1 vs) ≡ said t.bad ps (drop 1 vs)
          → verdict_from types (moved false (need b t)) (drop 1 vs) ≡ cond b (said t.bad ps (drop 1 vs)) (Err Layout)
      go true t ih = ih
      go false t ih = lost (drop 1 vs)

  -- ---- the marks

  refers-is : (k : Kind) (c : Counts) → refers k ≡ is_reference (ask k c)
  refers-is R c = refl
  refers-is Given c = refl
  refers-is Weight c = refl
  refers-is S c = refl
  refers-is (I low high) c = refl
  refers-is Flag c = refl
  refers-is Count c = refl
  refers-is Outer c = refl
  refers-is Upper1 c = refl
  refers-is Upper2 c = refl
  refers-is Degree1 c = refl
  refers-is Degree2 c = refl
  refers-is (P want) c = refl
  refers-is (Q want) c = refl
  refers-is (Bound want) c = refl
  refers-is Rest c = refl

  pub goes_marks : (ps : List Ask) (s : LayoutState) (vs : List Item) → Goes types s vs ps → ((i : ℕ) → suits (ask_at ps i) (value_at vs i) ≡ true) → marks_from types (Some s) vs ≡ reference_places ps vs
  unfolding marks_from reference_places
  goes_marks ps s [] h f = refl
  goes_marks [] s (v ∷ vs) h f =
      ap₂ (λ (b : Bool) (l : List Bool). b ∷ l) (ap (λ (q : LayoutPlace). refers q.kind) h)
      (ap (λ (g : Option LayoutState). marks_from types g vs) (step-rests s (seen v) h ∙ ap (λ (b : Bool). moved true (need b s)) (f 0)) ∙ goes_marks [] s vs h (λ i. f (suc i)))
  goes_marks (a ∷ ps) s (v ∷ vs) h f =
      ap₂ (λ (b : Bool) (l : List Bool). b ∷ l) (refers-is (kind_at s) (counts_of s) ∙ ap is_reference h.0)
      (ap (λ (g : Option LayoutState). marks_from types g vs)
      (step-takes s (seen v) h.1.0 ∙ ap (λ (b : Bool). moved false (need b (taken types s (seen v)))) (ap (λ (x : Ask). suits x (seen v)) h.0 ∙ f 0))
      ∙ goes_marks ps (onward (taken types s (seen v))) vs h.1.1 (λ i. f (suc i)))
