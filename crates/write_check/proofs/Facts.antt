-- What a caller of `check` has in hand: a good sheet is written by its lines and has a model; a refusal is that of writing. Assumes nothing.
use Rattle.std.proofs.Common.{◌≡◌, ℕ, List, length, refl, ap, ◌∙◌, arith, Ok, sym, Err}
use Rattle.columns.specs.declared.Refusal.{Refusal}
use Rattle.columns.specs.declared.SheetLine.{SheetLine}
use Rattle.columns.specs.Refusal.{Outcome, accepted, refused, refusal_at}
use Rattle.sheets.specs.Sheet.{lines_in, sheet_of}
use Rattle.sheets.specs.Order.{sheet_line, verdict_of}
use Rattle.model.specs.Model.{Model, model_of}
use Rattle.model.specs.Write.{write_model}
use Rattle.file_canonical.specs.Counting.{lines_of_sheet, Lines}
use Rattle.file_canonical.proofs.Answers.{passed}
use Rattle.write_check.specs.declared.Ruled.{Ruled}
use Rattle.write_check.specs.Answers.{ruled, told, ruled_of}

-- a text that passes all checks with n entries, its model, and the lines of its file
pub record Passed (list : ℕ) (t : List ℕ) (n : ℕ) (k : Lines) : Type 0 where
  pub verdict : verdict_of t ≡ Ok n
  pub model : write_model list t ≡ accepted (model_of (sheet_of (lines_in t)))
  pub lines : k ≡ lines_of_sheet (lines_in t)

pub ruled_good : (list : ℕ) (t : List ℕ) (n : ℕ) (k : Lines) → ruled n k ≡ ruled_of list t → Passed list t n k
unfolding ruled_of
ruled_good list t n k h = by (write_model list t) refl h
  where
    by : (o : Outcome Model) → write_model list t ≡ o → ruled n k ≡ told (lines_of_sheet (lines_in t)) o → Passed list t n k
    by (accepted m) e g =
        let p = passed list t m e in
        let one : Ruled = record { entries = n; lines = k } in
        let two : Ruled = record { entries = length m.entries; lines = lines_of_sheet (lines_in t) } in
        let same : one ≡ two = cc in
        record {
          verdict = p.good ∙ ap Ok (sym (ap (λ (r : Ruled). r.entries) same));
          model = e ∙ ap accepted p.model;
          lines = ap (λ (r : Ruled). r.lines) same;
        }
    by (refused m place) e g = let z : ◌≡◌ {A = ℕ} 0 1 = cc in absurd (omega arith)

-- a refusal is that of writing, at its line
pub ruled_refused : (list : ℕ) (t : List ℕ) (w : Refusal SheetLine) → Err w ≡ ruled_of list t → write_model list t ≡ refused w.fault w.line.0
unfolding ruled_of
ruled_refused list t w h = by (write_model list t) refl h
  where
    by : (o : Outcome Model) → write_model list t ≡ o → Err w ≡ told (lines_of_sheet (lines_in t)) o → write_model list t ≡ refused w.fault w.line.0
    by (accepted x) e g = let z : ◌≡◌ {A = ℕ} 0 1 = cc in absurd (omega arith)
    by (refused k p) e g =
        let same : w ≡ refusal_at k (sheet_line p) = cc in
        rw same e
