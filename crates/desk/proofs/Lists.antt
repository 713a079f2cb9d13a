-- Demand 3, a and b: of two lists, one inside the other. The list enters in the last pass alone. Assumes nothing.
use mathlib.Core.Path.{◌≡◌, refl, sym, ap, ◌∙◌}
use mathlib.Core.Bool.{Bool, true, false, cond, false≢true}
use mathlib.Core.List.{List, [], ◌∷◌, map}
use mathlib.Core.Logic.{⊎_elim}
use Prim.Native.Nat.{ℕ, ◌≤◌}
use native.Mathlib.Omega.{arith}
use lib.ListN.{length, drop}
use borrow.Author.Tests.{le-leb}
use Rattle.columns.specs.Refusal.{Outcome, accepted, each_at, ◌then◌}
use Rattle.columns.specs.Format.{most_list}
use Rattle.columns.proofs.Stops.{Accepts, done, next, all_accepted, accepts_all}
use Rattle.values.specs.Value.{Item}
use Rattle.records.specs.Record.{Values, trimmed, values_at}
use Rattle.cards.specs.declared.Counts.{Counts}
use Rattle.layouts.specs.Entities.{Entity, entity_check, verdict, fault, carried, marks}
use Rattle.layouts.specs.Known.{known, Inside}
use Rattle.layouts.proofs.Demand.{knows, marks_same}
use Rattle.layouts.proofs.Fits.{marks-length}
use Rattle.model.specs.Model.{Carried, Model, entity_of, marked, row_of, sheet_of}
use Rattle.model.specs.Read.{Listed, GlobalRead, two, by_parameters, parameters_of, entity_in, listed_type, first_entry, last_pass, model_with, before, read_model}
use Rattle.model.proofs.ReadApart.{entity_apart, read_apart}
use Rattle.desk.specs.Demands.{unmarked, RowsAlike, same, marks_only, AllAlike, none, more, SheetsAlike, SmallerAccepts}

-- what one pass accepts another accepts alike, if it does so of each element
accepts_too : {A B : Type 0} {takes : A → ℕ} {f g : ℕ → A → Outcome B} → ((p : ℕ) (x : A) (y : B) → g p x ≡ accepted y → f p x ≡ accepted y)
    → {p : ℕ} {xs : List A} {ys : List B} → Accepts takes g p xs ys → Accepts takes f p xs ys
accepts_too h done = done
accepts_too h (next {p} {x} {xs} {y} e s) = next (h p x y e) (accepts_too h s)

pub each_too : {A B : Type 0} (takes : A → ℕ) (f g : ℕ → A → Outcome B) → ((p : ℕ) (x : A) (y : B) → g p x ≡ accepted y → f p x ≡ accepted y)
    → (p : ℕ) (xs : List A) (ys : List B) → each_at takes g p xs ≡ accepted ys → each_at takes f p xs ≡ accepted ys
each_too takes f g h p xs ys e = accepts_all takes f (accepts_too h (all_accepted takes g p xs ys e))

module _ (small large : ℕ) (inside : Inside small large) where
  -- an entity that the larger list accepts the smaller one accepts
  check_too : (types : List ℕ) (e : Entity) (p : ℕ) → entity_check large types e p ≡ accepted tt → entity_check small types e p ≡ accepted tt
  unfolding entity_check
  check_too types e p = by (known small e.typ e.form) (known large e.typ e.form) (knows small large e.typ e.form inside)
    where
      by : (a b : Bool) → (a ≡ true → b ≡ true) → cond b (fault (verdict types e) p) (accepted tt) ≡ accepted tt
          → cond a (fault (verdict types e) p) (accepted tt) ≡ accepted tt
      by true true k h = h
      by true false k h = absurd (false≢true (k refl))
      by false b k h = refl

  parameters_too : (types : List ℕ) (p : ℕ) (e : Listed) (vs : Values) (y : Carried) → by_parameters large types p e vs ≡ accepted y
      → by_parameters small types p e vs ≡ accepted y
  parameters_too types p e vals y h =
      let a = entity_apart large types p e vals y h in
      rw (a.read, a.first, check_too types (entity_of e.fields (trimmed (drop 1 a.items))) p a.layout) (ap accepted (sym a.is))

  entity_too : (f : List ℕ) (c : Counts) (g : GlobalRead) (types : List ℕ) (p : ℕ) (e : Listed) (y : Carried)
      → entity_in large f c g types p e ≡ accepted y → entity_in small f c g types p e ≡ accepted y
  unfolding entity_in
  entity_too f c g types p e y h = parameters_too types p e (values_at 64 g.parameter g.record_end (parameters_of f c e) 0) y h

  pub last_too : (f : List ℕ) (c : Counts) (g : GlobalRead) (es : List Listed) (ys : List Carried) → last_pass large f c g es ≡ accepted ys
      → last_pass small f c g es ≡ accepted ys
  unfolding last_pass
  last_too f c g es ys h = each_too two _ _ (entity_too f c g (map listed_type es)) (first_entry c) es ys h

  -- ---- the sheets

  -- values of which none is marked
  none-marked : (bs : List Bool) (vs : List Item) → length bs ≡ length vs → marked (map carried vs) vs ≡ map unmarked (marked bs vs)
  unfolding marked
  none-marked [] [] h = refl
  none-marked [] (v ∷ vs) h = absurd (omega arith)
  none-marked (b ∷ bs) [] h = absurd (omega arith)
  none-marked (b ∷ bs) (v ∷ vs) h = ap (λ (l : List (Bool × Item)). (false, v) ∷ l) (none-marked bs vs (omega arith))

  carried-marks : (x : Entity) → known small x.typ x.form ≡ false → marks small x ≡ map carried x.values
  unfolding marks
  carried-marks x h = rw h

  row_alike : (e : Carried) → RowsAlike small large (row_of small e) (row_of large e)
  unfolding row_of
  row_alike e =
      ⊎_elim (λ q. rw (q.0, q.1) (same _))
      (λ q. rw (carried-marks x q.0, none-marked (marks large x) e.values (marks-length large x), q.0, q.1)
      (marks_only e.fields e.label (marked (marks large x) e.values) q.0 q.1))
      (marks_same small large inside x)
    where
      x : Entity
      x = entity_of e.fields e.values

  rows_alike : (es : List Carried) → AllAlike small large (map (row_of small) es) (map (row_of large) es)
  rows_alike [] = none
  rows_alike (e ∷ es) = more (row_alike e) (rows_alike es)

  pub sheets_alike : (m : Model) → SheetsAlike small large (sheet_of small m) (sheet_of large m)
  unfolding sheet_of
  sheets_alike m = record { starts = refl; globals = refl; rows = rows_alike m.entries }

-- ---- the whole of reading

-- a list that is no list is refused first
pub read_list : (list : ℕ) (f : List ℕ) → list ≤ most_list
    → read_model list f ≡ (before f then λ b. last_pass list f b.counts b.global b.listed then λ es. accepted (model_with f b.counts b.global es))
unfolding read_model
read_list list f h = rw (le-leb list most_list h)

-- a and b
pub smaller_accepts : SmallerAccepts
smaller_accepts small large o f m h = (model, sheets_alike small large o.inside m)
  where
    model : read_model small f ≡ accepted m
    model =
        let a = read_apart large f m h in
        let b = a.whole in
        read_list small f o.small_list
        ∙ rw (a.told, last_too small large o.inside f b.counts b.global b.listed a.carried a.passes) (ap accepted (sym a.is))
