-- Demand 2 for files and sheets as wholes. Assumes nothing.
use mathlib.Core.Path.{◌≡◌, sym, ap, ◌∙◌}
use mathlib.Core.List.{List}
use Prim.Native.Nat.{ℕ, ◌≤◌}
use Rattle.columns.specs.Refusal.{accepted}
use Rattle.columns.specs.Format.{most_lines}
use Rattle.columns.proofs.Outcomes.{then_accepted}
use Rattle.sheets.specs.Sheet.{sheet_text}
use Rattle.model.specs.Model.{Model, sheet_of}
use Rattle.model.specs.Canonical.{line_total, canonical}
use Rattle.model.specs.Read.{read_model, reads}
use Rattle.model.specs.Write.{writes}
use Rattle.model.specs.Fit.{Fits}
use Rattle.desk.specs.Demands.{ThereAndBack, SheetsExactly, described}
use Rattle.demands_back.proofs.Whole.{back}
use Rattle.demands.proofs.FromFile.{read_fits}
use Rattle.demands.proofs.Written.{written_short}
use Rattle.demands.proofs.Described.{described-sheet, written-sheet}

-- ---- a sheet that a file was read to

-- its model fits, and it is that model's sheet
pub record ReadTo (list : ℕ) (f s : List ℕ) : Type 0 where
  pub model : Model
  pub read : read_model list f ≡ accepted model
  pub fits : Fits list model
  pub text : sheet_text (sheet_of list model) ≡ s

pub read-to : (list : ℕ) (f s : List ℕ) → reads list f ≡ accepted s → ReadTo list f s
unfolding reads
read-to list f s h =
    let b = then_accepted (read_model list f) _ s h in
    let e = b.second in
    record { model = b.value; read = b.first; fits = read_fits list f b.value b.first; text = (cc) }

-- its lines tell that model
pub tells-model : (list : ℕ) (f s : List ℕ) (r : ReadTo list f s) → described s ≡ r.model
tells-model list f s r = ap described (sym r.text) ∙ described-sheet list r.model r.fits

-- a file's sheet is accepted if the canonical file that it describes keeps to the limit
pub read-writes : (list : ℕ) (f s : List ℕ) → reads list f ≡ accepted s → line_total (described s) ≤ most_lines → writes list s ≡ accepted (canonical (described s))
read-writes list f s h l =
    let r = read-to list f s h in
    let e = tells-model list f s r in
    ap (writes list) (sym r.text) ∙ written_short list r.model r.fits (rw e at l) ∙ ap (λ (m : Model). accepted (canonical m)) (sym e)

-- ---- with the file's side

pub reads_back : (list : ℕ) (m : Model) → Fits list m → line_total m ≤ most_lines → reads list (canonical m) ≡ accepted (sheet_text (sheet_of list m))
unfolding reads
reads_back list m f h = rw (back list m f h)

pub there_and_back : ThereAndBack
there_and_back list f m h l =
    let k = read_fits list f m h in
    (written_short list m k l, reads_back list m k l)

pub written-reads : (list : ℕ) (s g : List ℕ) → writes list s ≡ accepted g → reads list g ≡ accepted s
written-reads list s g h =
    let a = written-sheet list s g h in
    ap (reads list) a.file ∙ reads_back list (described s) a.fits a.short ∙ ap accepted a.text

pub sheets_exactly : SheetsExactly
sheets_exactly list s g = (
  λ h. let a = written-sheet list s g h in (a.file, (a.short, written-reads list s g h)),
  λ k. read-writes list g s k.1.1 k.1.0 ∙ ap accepted (sym k.0),
)
