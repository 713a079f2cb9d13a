-- What follows from the demands for files and sheets that are carried back and forth, as statements over the definitions.
use Rattle.std.specs.Prelude.{◌≡◌, Bool, cond, List, [], ◌∷◌, map, ℕ, ◌≤◌, eqb, get_or}
use Rattle.columns.specs.Refusal.{Outcome, accepted}
use Rattle.columns.specs.Format.{most_lines}
use Rattle.values.specs.Value.{Item, default, whole}
use Rattle.model.specs.Model.{Carried, Model}
use Rattle.model.specs.Canonical.{line_total, canonical}
use Rattle.model.specs.Read.{read_model, reads}
use Rattle.model.specs.Write.{write_model, writes}
use Rattle.model.specs.Fit.{Fits}

-- the canonical file of a model that fits is read as that model, if it keeps to the limit
abbrev pub CanonicalRead : Type 0
CanonicalRead = (list : ℕ) (m : Model) → Fits list m → line_total m ≤ most_lines → read_model list (canonical m) ≡ accepted m

-- the canonical file of a file that is read carries its model
abbrev pub ModelKept : Type 0
ModelKept =
    (list : ℕ) (f : List ℕ) (m : Model) → read_model list f ≡ accepted m → line_total m ≤ most_lines
    → read_model list (canonical m) ≡ accepted m

-- a sheet carries all of a file's model: two files with one sheet have one model, so one canonical file
abbrev pub OneModel : Type 0
OneModel = (list : ℕ) (f g s : List ℕ) → reads list f ≡ accepted s → reads list g ≡ accepted s
    → (m : Model) × ((read_model list f ≡ accepted m) × (read_model list g ≡ accepted m))

-- no two sheets are written to the same file
abbrev pub OneSheet : Type 0
OneSheet = (list : ℕ) (s t g : List ℕ) → writes list s ≡ accepted g → writes list t ≡ accepted g → s ≡ t

-- a written file reads as the sheet that it was written of
abbrev pub ReadsBack : Type 0
ReadsBack = (list : ℕ) (s g : List ℕ) → writes list s ≡ accepted g → reads list g ≡ accepted s

-- the sheet of a written file is written to that file
abbrev pub WrittenAgain : Type 0
WrittenAgain =
    (list : ℕ) (s g u : List ℕ) → writes list s ≡ accepted g → reads list g ≡ accepted u → writes list u ≡ accepted g

-- ---- what a file carries is carried all the way

-- a file, its sheet, and the file that is written of the sheet carry the model m
pub record CarriedAll (list : ℕ) (f s : List ℕ) (m : Model) : Type 0 where
  pub file : read_model list f ≡ accepted m
  pub sheet : write_model list s ≡ accepted m
  pub written : (g : List ℕ) → writes list s ≡ accepted g → read_model list g ≡ accepted m

-- every file that is read has such a model
abbrev pub OneModelInAll : Type 0
OneModelInAll = (list : ℕ) (f s : List ℕ) → reads list f ≡ accepted s → (m : Model) × CarriedAll list f s m

-- the values of an entry
abbrev pub values_in : Carried → List Item
values_in e = e.values

-- value j of entry i, both from 0
abbrev pub entry_value : Model → ℕ → ℕ → Item
entry_value m i j = get_or (get_or (map values_in m.entries) i []) j default

-- the Global field of a number
abbrev pub global_field : List (ℕ × Item) → ℕ → Item
global_field [] n = default
global_field (g ∷ gs) n = cond (eqb g.0 n) g.1 (global_field gs n)

-- a model is told, and in it every integer of m stands where it stands in m
pub record IntegersIn (told : Outcome Model) (m : Model) : Type 0 where
  pub model : Model
  pub is-told : told ≡ accepted model
  pub values : (i j : ℕ) (neg : Bool) (size : ℕ) → entry_value m i j ≡ whole neg size → entry_value model i j ≡ whole neg size
  pub fields : (n : ℕ) (neg : Bool) (size : ℕ) → global_field m.globals n ≡ whole neg size
      → global_field model.globals n ≡ whole neg size

-- an integer of a file, wherever it stands, is that integer in its sheet, and in the file that is written of the sheet
abbrev pub IntegerKept : Type 0
IntegerKept =
    (list : ℕ) (f s : List ℕ) (m : Model) → reads list f ≡ accepted s → read_model list f ≡ accepted m
    → IntegersIn (write_model list s) m × ((g : List ℕ) → writes list s ≡ accepted g → IntegersIn (read_model list g) m)
