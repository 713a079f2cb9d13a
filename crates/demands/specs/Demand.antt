-- Demand 2, sentence by sentence, of any reader and any writer. It settles both: whoever keeps it accepts the files and the sheets that
-- `reads` and `writes` accept, with the same sheets and the same files. Only the number and the place of a refusal are not its matter.
use Rattle.std.specs.Prelude.{◌≡◌, List, ℕ, ◌≤◌}
use Rattle.columns.specs.Refusal.{Outcome, accepted}
use Rattle.columns.specs.Format.{most_lines}
use Rattle.model.specs.Canonical.{line_total, canonical}
use Rattle.model.specs.Read.{reads}
use Rattle.model.specs.Write.{writes}
use Rattle.desk.specs.Words.{Accepts, Iff}
use Rattle.desk.specs.Rules.{MeetsRules}
use Rattle.desk.specs.Demands.{described}
use Rattle.desk.specs.Content.{model_of, sheet_by}

-- a reader or a writer: of a list and bytes
abbrev pub Way : Type 0
Way = ℕ → List ℕ → Outcome (List ℕ)

-- what is accepted, and that it goes there and back (that each parameter line then belongs to exactly one entity speaks of the rules
-- alone: `desk/Demands.OneOwner`)
pub record AcceptsAndReturns (rd wr : Way) : Type 0 where
  -- "a file is accepted exactly if it meets those rules"
  pub files : (list : ℕ) (f : List ℕ) → Iff (Accepts (rd list f)) (MeetsRules list f)
  -- "its sheet, written and read again with the same list, gives that sheet if the written file keeps to 200,000 lines"
  pub there_and_back : (list : ℕ) (f s : List ℕ) → rd list f ≡ accepted s → line_total (described s) ≤ most_lines
      → (g : List ℕ) × ((wr list s ≡ accepted g) × (rd list g ≡ accepted s))
  -- "a sheet is accepted exactly if the canonical file it describes keeps to that limit and reads back as that sheet"; that file is written
  pub exactly : (list : ℕ) (s g : List ℕ)
      → Iff (wr list s ≡ accepted g)
      ((g ≡ canonical (described s)) × ((line_total (described s) ≤ most_lines) × (rd list g ≡ accepted s)))

-- demand 2
pub record KeepsDemand (rd wr : Way) : Type 0 where
  -- "Reading and writing follow IGES 4.0 as document 01 states it": a file that meets the rules is read to the sheet of what it carries
  pub content : (list : ℕ) (f : List ℕ) (r : MeetsRules list f) → rd list f ≡ accepted (sheet_by r)
  -- the other sentences
  pub rest : AcceptsAndReturns rd wr

-- reading and writing keep it
abbrev pub Kept : Type 0
Kept = KeepsDemand reads writes

-- ---- what it settles

-- whoever keeps it accepts the files that `reads` accepts, with the same sheets
abbrev pub OneReader : Type 0
OneReader =
    (rd wr : Way) → KeepsDemand rd wr → (list : ℕ) (f s : List ℕ) → Iff (rd list f ≡ accepted s) (reads list f ≡ accepted s)

-- and the sheets that `writes` accepts, with the same files
abbrev pub OneWriter : Type 0
OneWriter =
    (rd wr : Way) → KeepsDemand rd wr → (list : ℕ) (s g : List ℕ) → Iff (wr list s ≡ accepted g) (writes list s ≡ accepted g)

-- a sheet leaves nothing out: two files that meet the rules and are read alike carry one model
abbrev pub NothingLeftOut : Type 0
NothingLeftOut = (rd wr : Way) → KeepsDemand rd wr → (list : ℕ) (f g : List ℕ) (r : MeetsRules list f) (q : MeetsRules list g)
    → rd list f ≡ rd list g → model_of r ≡ model_of q
