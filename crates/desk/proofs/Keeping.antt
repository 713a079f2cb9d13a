-- Whether an entity keeps to its layout does not hang on defaults at its end. Assumes nothing.
use mathlib.Core.Path.{◌≡◌, refl, sym, ap, ◌∙◌}
use mathlib.Core.Bool.{Bool, true, false, cond}
use mathlib.Core.List.{List, [], ◌∷◌}
use Prim.Native.Nat.{ℕ, zero, suc}
use lib.ListN.{get_or}
use Rattle.values.specs.Value.{Item, default, seen, is_default}
use Rattle.values.proofs.OneSpelling.{default_only}
use Rattle.records.specs.Record.{trim, trimmed}
use Rattle.directory.specs.declared.Fields.{Fields}
use Rattle.layouts.specs.Fits.{Keeps}
use Rattle.layouts.proofs.Fits.{Same, keeps_same}
use Rattle.model.specs.Model.{type_of, entity_of}

-- behind the last that is kept stand defaults
trim-at : (v : Item) (us : List Item) (i : ℕ) → get_or (trim v us) i default ≡ get_or (v ∷ us) i default
trim-at v (u ∷ us) i = refl
trim-at v [] i = by (is_default v) refl i
  where
    by : (b : Bool) → is_default v ≡ b → (i : ℕ) → get_or (cond b [] (v ∷ [])) i default ≡ get_or (v ∷ []) i default
    by true e zero = sym (default_only v e)
    by true e (suc i) = refl
    by false e i = refl

trimmed-at : (vs : List Item) (i : ℕ) → get_or (trimmed vs) i default ≡ get_or vs i default
trimmed-at [] i = refl
trimmed-at (v ∷ vs) zero = trim-at v (trimmed vs) zero
trimmed-at (v ∷ vs) (suc i) = trim-at v (trimmed vs) (suc i) ∙ trimmed-at vs i

trimmed_same : (vs : List Item) → Same (trimmed vs) vs
trimmed_same vs i = ap seen (trimmed-at vs i)

module _ (types : List ℕ) (x : Fields) (vs : List Item) where
  pub all_kept : Keeps types (entity_of x (trimmed vs)) → Keeps types (entity_of x vs)
  all_kept = keeps_same types (type_of x) x.form.size (trimmed vs) vs (trimmed_same vs)

  pub some_kept : Keeps types (entity_of x vs) → Keeps types (entity_of x (trimmed vs))
  some_kept = keeps_same types (type_of x) x.form.size vs (trimmed vs) (λ i. sym (trimmed_same vs i))
