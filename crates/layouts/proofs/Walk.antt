-- The walk says of an entity what the paper says: its verdict, and of one that fits its marks. Assumes nothing.
use mathlib.Core.Path.{◌≡◌, refl, sym, ap, ◌∙◌, subst}
use mathlib.Core.Bool.{Bool, true, false, cond, not, ◌&&◌}
use mathlib.Core.List.{List, [], ◌∷◌, ◌++◌, map, append_assoc}
use Prim.Native.Nat.{ℕ, zero, suc, ◌+◌, ◌<◌}
use native.Mathlib.Nat.{not-suc-le-zero, le_of_suc-le-suc, add-zero}
use lib.ListN.{length, get_or, drop, length-append}
use lib.Seq.{drop-append_seam, drop-drop, get_or-drop}
use lib.Dec.{ltb}
use borrow.Author.Tests.{ltb-true, not-true}
use Rattle.columns.specs.Refusal.{accepted}
use Rattle.values.specs.Value.{Item}
use Rattle.layouts.specs.declared.Kind.TheVariants.{Rest}
use Rattle.layouts.specs.declared.Times.TheVariants.{Fixed}
use Rattle.layouts.specs.declared.LayoutPlace.{LayoutPlace}
use Rattle.layouts.specs.declared.LayoutState.{LayoutState}
use Rattle.std.specs.Prelude.{None, Ok, Err}
use Rattle.columns.specs.declared.Fault.TheVariants.{Layout, LayoutReference}
use Rattle.layouts.specs.Verdict.{Verdict}
use Rattle.layouts.specs.Layout.{Row, ◌of◌, paper, groups, bit_of}
use Rattle.layouts.specs.Known.{bit, known}
use Rattle.layouts.specs.Fits.{suits, refers_well, none, close, spelled, places_of, asked, Fits, Keeps}
use Rattle.layouts.specs.Entities.{Entity, everywhere, verdict, fault, entity_check, reference_places, carried, marks}
use Rattle.layouts.specs.Table.{tail, flat, table, starts, start_of, place_at}
use Rattle.layouts.specs.Machine.{start, closed}
use Rattle.layouts.specs.Walk.{begun, judged, marks_from}
use Rattle.layouts.proofs.Tables.{up_to, up_to_at, and_both}
use Rattle.layouts.proofs.Empties.{may_lack, some, settle_stays}
use Rattle.layouts.proofs.Agrees.{standing, arrived, sound, Placed, placed-none, placed-next, Goes, Agrees, segments, closing}
use Rattle.layouts.proofs.Judges.{goes_verdict, goes_marks}

-- ---- where a row stands in the table

abbrev all_sound : List LayoutPlace → Bool
all_sound [] = true
all_sound (p ∷ ps) = sound p && all_sound ps

at_head : (i : ℕ) (p : LayoutPlace) (ps : List LayoutPlace) → drop i table ≡ p ∷ ps → place_at i ≡ p
unfolding place_at
at_head i p ps e = ap (λ (n : ℕ). get_or table n (Fixed 1 of Rest)) (sym (add-zero i)) ∙ sym (get_or-drop i table 0 (Fixed 1 of Rest)) ∙ ap (λ (l : List LayoutPlace). get_or l 0 (Fixed 1 of Rest)) e

-- what the table has from i on, as a list, place by place
placed : (ps : List LayoutPlace) (i : ℕ) (rest : List LayoutPlace) → drop i table ≡ ps ++ rest → all_sound ps ≡ true → (j : ℕ) × (Placed i ps j × (drop j table ≡ rest))
placed [] i rest e s = (i, (placed-none, e))
placed (p ∷ ps) i rest e s =
    let h = and_both (sound p) (all_sound ps) s in
    let r = placed ps (i + 1) rest (sym (drop-drop 1 i table) ∙ ap (drop 1) e) h.1 in
    (r.0, (placed-next (at_head i p (ps ++ rest) e) h.0 r.1.0, r.1.1))

abbrev places_in : List Row → ℕ → List LayoutPlace
places_in rs k = get_or (map (λ (r : Row). r.places) rs) k []

-- behind other places, those of a row start where `starts` says
row_from_lem : (rs : List Row) (pre : List LayoutPlace) (k : ℕ) → k < length rs
    → (more : List LayoutPlace) × (drop (get_or (starts (length pre) rs) k 0) (pre ++ flat rs) ≡ (places_in rs k ++ tail) ++ more)
row_from_lem [] pre k h = absurd (not-suc-le-zero h)
row_from_lem (r ∷ rs) pre zero h = (flat rs, drop-append_seam pre (flat (r ∷ rs)))
row_from_lem (r ∷ rs) pre (suc k) h =
    let x = row_from_lem rs (pre ++ (r.places ++ tail)) k (le_of_suc-le-suc h) in
    (x.0, rw (length-append, append_assoc pre (r.places ++ tail) (flat rs)) at x.1)

row_at : (k : ℕ) → k < length paper → (more : List LayoutPlace) × (drop (start_of k) table ≡ places_in paper k ++ (groups ++ (Fixed 1 of Rest ∷ more)))
unfolding start_of table
row_at k h = let x = row_from_lem paper [] k h in (x.0, x.1 ∙ append_assoc (places_in paper k) tail x.0)

all_sound_lem : up_to (length paper) (λ (k : ℕ). all_sound (places_in paper k)) ≡ true
unfolding paper
all_sound_lem = refl

all_start : up_to (length paper) (λ (k : ℕ). not (may_lack (place_at (start_of k)).times)) ≡ true
unfolding paper place_at start_of table
all_start = refl

-- ---- the walk goes through the places of a row

module _ (types : List ℕ) where
  row_agrees : (k : ℕ) → k < length paper → Agrees types (start_of k) (spelled (places_in paper k) (spelled groups close))
  row_agrees k h =
      let w = row_at k h in
      let a = placed (places_in paper k) (start_of k) (groups ++ (Fixed 1 of Rest ∷ w.0)) w.1 (up_to_at (length paper) (λ (k : ℕ). all_sound (places_in paper k)) k all_sound_lem h) in
      let b = placed groups a.0 (Fixed 1 of Rest ∷ w.0) a.1.1 refl in
      segments types (spelled groups close) a.1.0 (segments types close b.1.0 (closing types b.0 (at_head b.0 (Fixed 1 of Rest) w.0 b.1.1)))

  start_arrives : (typ form : ℕ) → bit_of typ form < length paper → start typ form ≡ arrived (start_of (bit_of typ form)) none false
  unfolding start
  start_arrives typ form h =
      let i = start_of (bit_of typ form) in
      let z = not-true (may_lack (place_at i).times) (up_to_at (length paper) (λ (k : ℕ). not (may_lack (place_at (start_of k)).times)) (bit_of typ form) all_start h) in
      sym (settle_stays (standing i 0 none false) (some (place_at i).times (standing i 0 none false) z))

  entity_goes : (e : Entity) → bit_of e.typ e.form < length paper → Goes types (start e.typ e.form) e.values (asked e)
  unfolding asked places_of
  entity_goes e h =
      subst (λ (s : LayoutState). Goes types s e.values (asked e)) (sym (start_arrives e.typ e.form h)) (row_agrees (bit_of e.typ e.form) h none false e.values)

  -- ---- of an entity that a list knows

  module _ (list : ℕ) (e : Entity) (k : known list e.typ e.form ≡ true) where
    has_row : bit_of e.typ e.form < length paper
    unfolding known
    has_row = ltb-true _ _ (and_both (ltb (bit_of e.typ e.form) (length paper)) (bit (bit_of e.typ e.form) list) k).0

    -- the verdict of the walk is the verdict
    pub judged-verdict : judged types e ≡ verdict types e
    unfolding judged verdict start
    judged-verdict =
        goes_verdict types (asked e) (start e.typ e.form) e.values (entity_goes e has_row)
        ∙ by (everywhere suits (asked e) e.values) (everywhere (refers_well types) (asked e) e.values)
      where
        by : (a b : Bool) → cond a (closed (not b)) (Err Layout) ≡ cond a (cond b (Ok tt) (Err LayoutReference)) (Err Layout)
        by true true = refl
        by true false = refl
        by false b = refl

    -- of an entity that fits the walk has the marks
    pub marks_walked : Fits e → marks_from types (begun e) e.values ≡ reference_places (asked e) e.values
    marks_walked f = goes_marks types (asked e) (start e.typ e.form) e.values (entity_goes e has_row) f

  -- ---- under a list

  module _ (list : ℕ) (e : Entity) where
    -- the refusal by the walk
    pub check_judged : (place : ℕ) → cond (known list e.typ e.form) (fault (judged types e) place) (accepted tt) ≡ entity_check list types e place
    unfolding entity_check
    check_judged place = by (known list e.typ e.form) refl
      where
        by : (b : Bool) → known list e.typ e.form ≡ b → cond b (fault (judged types e) place) (accepted tt) ≡ cond b (fault (verdict types e) place) (accepted tt)
        by true k = ap (λ (w : Verdict). fault w place) (judged-verdict list e k)
        by false k = refl

    bad_marks : (vs : List Item) → marks_from types None vs ≡ map carried vs
    unfolding marks_from
    bad_marks [] = refl
    bad_marks (v ∷ vs) = ap (λ (l : List Bool). false ∷ l) (bad_marks vs)

    -- the marks by the walk, which begins nowhere where the list does not know the entity
    pub marks-judged : (known list e.typ e.form ≡ true → Keeps types e) → marks_from types (cond (known list e.typ e.form) (begun e) None) e.values ≡ marks list e
    unfolding marks
    marks-judged h = by (known list e.typ e.form) refl
      where
        by : (b : Bool) → known list e.typ e.form ≡ b → marks_from types (cond b (begun e) None) e.values ≡ cond b (reference_places (asked e) e.values) (map carried e.values)
        by true k = marks_walked list e k (h k).fits
        by false k = bad_marks e.values
