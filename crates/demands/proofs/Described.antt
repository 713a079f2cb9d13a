-- The model that a text's lines tell: that of the sheet that they are, and of the model whose sheet they print. Assumes nothing.
use mathlib.Core.Path.{◌≡◌, sym, ap, ◌∙◌}
use mathlib.Core.List.{List}
use Prim.Native.Nat.{ℕ, ◌≤◌}
use lib.Dec.{leb}
use borrow.Author.Tests.{leb-true}
use Rattle.columns.specs.declared.Fault.TheVariants.{TooLong}
use Rattle.columns.specs.Refusal.{accepted, demand}
use Rattle.columns.specs.Format.{most_lines}
use Rattle.columns.proofs.Outcomes.{then_accepted, demand_accepted}
use Rattle.sheets.specs.Sheet.{Sheet, sheet_text, sheet_of as sheet_of_lines}
use Rattle.sheets.proofs.Sheets.{sheet_again, lines-written, written_read}
use Rattle.model.specs.Model.{Model, sheet_of, model_of}
use Rattle.model.specs.Canonical.{line_total, canonical}
use Rattle.model.specs.Write.{write_model, writes}
use Rattle.model.specs.Fit.{Fits}
use Rattle.model.proofs.WriteApart.{write_apart}
use Rattle.desk.specs.Demands.{described}
use Rattle.demands.proofs.Rows.{model_again}
use Rattle.demands.proofs.ToSheet.{sheet_formed}
use Rattle.demands.proofs.FromSheet.{sheet-fits}

-- the text of a model's sheet tells the model
pub described-sheet : (list : ℕ) (m : Model) → Fits list m → described (sheet_text (sheet_of list m)) ≡ m
described-sheet list m f =
    ap (λ (s : Sheet). model_of s) (ap sheet_of_lines (lines-written (sheet_formed list m f).spelt) ∙ sheet_again (sheet_of list m)) ∙ model_again list m

-- so no two models have one
pub one_told : (list : ℕ) (m k : Model) → Fits list m → Fits list k → sheet_text (sheet_of list m) ≡ sheet_text (sheet_of list k) → m ≡ k
one_told list m k f g e = sym (described-sheet list m f) ∙ ap described e ∙ described-sheet list k g

-- ---- what is known of a sheet that is written

pub record Accepted (list : ℕ) (s g : List ℕ) : Type 0 where
  pub fits : Fits list (described s)
  pub text : sheet_text (sheet_of list (described s)) ≡ s
  pub short : line_total (described s) ≤ most_lines
  pub file : g ≡ canonical (described s)

pub written-sheet : (list : ℕ) (s g : List ℕ) → writes list s ≡ accepted g → Accepted list s g
unfolding writes
written-sheet list s g h =
    let w = then_accepted (write_model list s) _ g h in
    let d = then_accepted (demand (leb (line_total w.value) most_lines) TooLong 0) _ g w.second in
    let file = d.second in
    let a = write_apart list s w.value w.first in
    let e : described s ≡ model_of a.sheet = ap model_of (sym a.lines) in
    let q : w.value ≡ described s = a.is ∙ sym e in
    let f = sheet-fits list s a.sheet a.listed a.read a.rules in
    record {
      fits = rw e f.0;
      text = rw e (ap sheet_text f.1 ∙ (written_read s a.sheet a.read).text);
      short = rw (← q) (leb-true (line_total w.value) most_lines (demand_accepted _ TooLong 0 d.first));
      file = let y : g ≡ canonical w.value = cc in y ∙ ap canonical q;
    }
