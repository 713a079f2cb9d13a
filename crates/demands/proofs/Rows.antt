-- A model's sheet carries the model: without its marks it is the model again.
use mathlib.Core.Path.{◌≡◌, refl, ap, ap₂}
use mathlib.Core.List.{List, [], ◌∷◌, map}
use Prim.Native.Nat.{ℕ}
use Rattle.values.specs.Value.{Item}
use Rattle.layouts.specs.Entities.{marks}
use Rattle.layouts.proofs.Fits.{marks-length}
use Rattle.model.specs.Model.{Carried, Model, types_of, entity_of, row_of, sheet_of, value_in, mark_in, carried_of, model_of}
use Rattle.model.specs.Write.{row_types}
use Rattle.demands.proofs.Marks.{marked_values, marked-marks}

-- ---- one entry

module _ (list : ℕ) (e : Carried) where
  -- its values
  pub row_values : map value_in (row_of list e).values ≡ e.values
  unfolding row_of
  row_values = marked_values (marks list (entity_of e.fields e.values)) e.values (marks-length list (entity_of e.fields e.values))

  -- its marks
  pub row-marks : map mark_in (row_of list e).values ≡ marks list (entity_of e.fields e.values)
  unfolding row_of
  row-marks = marked-marks (marks list (entity_of e.fields e.values)) e.values (marks-length list (entity_of e.fields e.values))

  pub row_again : carried_of (row_of list e) ≡ e
  unfolding row_of
  row_again = ap (λ (vs : List Item). record { fields = e.fields; label = e.label; values = vs }) row_values

-- ---- all of them

pub rows_again : (list : ℕ) (es : List Carried) → map carried_of (map (row_of list) es) ≡ es
rows_again list [] = refl
rows_again list (e ∷ es) = ap₂ (λ (x : Carried) (xs : List Carried). x ∷ xs) (row_again list e) (rows_again list es)

-- the model of a model's sheet
pub model_again : (list : ℕ) (m : Model) → model_of (sheet_of list m) ≡ m
unfolding model_of sheet_of
model_again list m = ap (λ (es : List Carried). record { starts = m.starts; globals = m.globals; entries = es }) (rows_again list m.entries)

pub types_again : (list : ℕ) (m : Model) → row_types (sheet_of list m) ≡ types_of m.entries
types_again list m = ap (λ (n : Model). types_of n.entries) (model_again list m)
