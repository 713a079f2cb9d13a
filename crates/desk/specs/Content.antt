-- What a file carries that meets the rules, and so what its sheet is: told by the rules' own parts and by columns of the file, with no
-- order of checks.
use Rattle.std.specs.Prelude.{◌≡◌, List, [], ◌∷◌, ℕ, zero, suc, ◌<◌}
use Rattle.std.proofs.Common.{arith}
use Rattle.columns.specs.Refusal.{accepted}
use Rattle.records.specs.Record.{trimmed}
use Rattle.records.specs.Global.{first_field}
use Rattle.cards.specs.Cards.{entries, entry_line}
use Rattle.directory.specs.Lines.{label_at}
use Rattle.sheets.specs.Sheet.{sheet_text}
use Rattle.model.specs.Model.{Carried, Model, sheet_of}
use Rattle.model.specs.Read.{starts_in, given, read_model, reads}
use Rattle.desk.specs.Words.{Iff}
use Rattle.desk.specs.Rules.{MeetsRules}

-- x 0, x 1 and so on, n of them
unfoldable pub below : {A : Type 0} (n : ℕ) → ((i : ℕ) → i < n → A) → List A
below zero x = []
below (suc n) x = x 0 (omega arith) ∷ below n (λ i h. x (suc i) (omega arith))

-- entry i: the numbers and the label columns of its D lines; the values of its parameter lines behind the type number, without trailing
-- defaults
abbrev pub carried_at : {list : ℕ} {f : List ℕ} (r : MeetsRules list f) (i : ℕ) → i < entries r.counts → Carried
carried_at {list} {f} r i h = record {
  fields = (r.entry i).fields;
  label = label_at f (entry_line r.counts i);
  values = trimmed (r.entry_meets i h).values;
}

-- the file: the texts of its S lines without trailing blanks; the Global fields that aren't default, with their numbers; its entries in
-- directory order
unfoldable pub model_of : {list : ℕ} {f : List ℕ} → MeetsRules list f → Model
model_of {list} {f} r = record {
  starts = starts_in f r.counts;
  globals = given first_field r.globals;
  entries = below (entries r.counts) (carried_at r);
}

-- its sheet
abbrev pub sheet_by : {list : ℕ} {f : List ℕ} → MeetsRules list f → List ℕ
sheet_by {list} r = sheet_text (sheet_of list (model_of r))

-- ---- "Reading and writing follow IGES 4.0 as document 01 states it"

-- the model that is read of a file that meets the rules is what the rules say that it carries
abbrev pub ReadsContent : Type 0
ReadsContent = (list : ℕ) (f : List ℕ) (r : MeetsRules list f) → read_model list f ≡ accepted (model_of r)

-- and so is its sheet
abbrev pub ReadsSheet : Type 0
ReadsSheet = (list : ℕ) (f : List ℕ) (r : MeetsRules list f) → reads list f ≡ accepted (sheet_by r)

-- so a model is a file's exactly if the file meets the rules and carries it
abbrev pub ExactlyTheModel : Type 0
ExactlyTheModel =
    (list : ℕ) (f : List ℕ) (m : Model) → Iff (read_model list f ≡ accepted m) ((r : MeetsRules list f) × (model_of r ≡ m))

-- and a text is a file's sheet exactly if the file meets the rules and the text is the sheet of what it carries
abbrev pub ExactlyTheSheet : Type 0
ExactlyTheSheet = (list : ℕ) (f s : List ℕ) → Iff (reads list f ≡ accepted s) ((r : MeetsRules list f) × (sheet_by r ≡ s))

-- however a file is seen to meet the rules, it carries the same
abbrev pub OneContent : Type 0
OneContent = (list : ℕ) (f : List ℕ) (r q : MeetsRules list f) → model_of r ≡ model_of q
