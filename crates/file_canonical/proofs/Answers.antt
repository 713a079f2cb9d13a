-- What writes a sheet needs to know: a sheet that passes its checks has its file, or too many lines for one. Assumes nothing.
use mathlib.Core.Path.{◌≡◌, refl, sym, ap, ◌∙◌}
use mathlib.Core.Bool.{Bool, true, false}
use mathlib.Core.List.{List}
use Prim.Native.Nat.{ℕ, ◌*◌, ◌≤◌, ◌<◌}
use native.Mathlib.Omega.{arith}
use lib.ListN.{length, length-map}
use lib.Dec.{leb}
use borrow.Author.Tests.{le-leb, lt-leb, leb-true, leb-false}
use Rattle.std.proofs.Common.{Ok, None, Some}
use Rattle.columns.specs.declared.Fault.TheVariants.{TooLong}
use Rattle.columns.specs.Refusal.{accepted, refused}
use Rattle.columns.specs.Format.{most_lines}
use Rattle.cards.specs.declared.Counts.{Counts}
use Rattle.cards.specs.Cards.{total}
use Rattle.directory.proofs.Ruled.{rules_of}
use Rattle.sheets.specs.Sheet.{Row, Sheet, lines_in, sheet_of}
use Rattle.sheets.specs.Order.{verdict_of}
use Rattle.sheets.specs.WellFormed.{Each}
use Rattle.sheets.proofs.Sheets.{verdict-written, written_read}
use Rattle.sheets.proofs.Each.{each_accepted}
use Rattle.model.specs.Model.{Model, carried_of, model_of}
use Rattle.model.specs.Canonical.{line_total, canonical}
use Rattle.model.specs.Write.{row_size, first_row, row_rules, sheet_rules, write_model, writes}
use Rattle.model.proofs.WriteApart.{rules_apart, write_apart}
use Rattle.file_canonical.specs.Counting.{lines_of_sheet}
use Rattle.file_canonical.specs.Laying.{Ranged}
use Rattle.file_canonical.proofs.Good.{few_lines}
use Rattle.file_canonical.proofs.Readied.{counts_are, file-length}

-- ---- the checks

-- rule 9 of one row
row_ranged : (place : ℕ) (r : Row) (y : Unit {0}) → row_rules place r ≡ accepted y → Ranged r
row_ranged place r y h = (rules_of r.fields place y h).ranges

-- of all rows
sheet_ranged : (list : ℕ) (s : Sheet) → sheet_rules list s ≡ accepted tt → Each Ranged s.rows
sheet_ranged list s h =
    let a = rules_apart list s h in
    each_accepted row_size row_rules row_ranged (first_row s) s.rows a.ranged a.entries

-- a sheet that passes all checks but 19
pub record Passed (t : List ℕ) (m : Model) : Type 0 where
  pub good : verdict_of t ≡ Ok (length m.entries)
  pub model : m ≡ model_of (sheet_of (lines_in t))
  pub ranged : Each Ranged (sheet_of (lines_in t)).rows

pub passed : (list : ℕ) (t : List ℕ) (m : Model) → write_model list t ≡ accepted m → Passed t m
unfolding model_of
passed list t m h =
    let a = write_apart list t m h in
    let w = written_read t a.sheet a.read in
    let n : length a.sheet.rows ≡ length m.entries = sym (length-map a.sheet.rows carried_of) ∙ ap (λ (x : Model). length x.entries) (sym a.is) in
    record {
      good = ap verdict_of (sym w.text) ∙ verdict-written a.sheet w.formed ∙ ap Ok n;
      model = a.is ∙ ap model_of a.lines;
      ranged = rw (← a.lines) (sheet_ranged list a.sheet a.rules);
    }

-- ---- 19, by the count

module _ (list : ℕ) (t : List ℕ) (m : Model) (h : write_model list t ≡ accepted m) where
  known : Passed t m
  known = passed list t m h

  -- a file may have the lines: the answer is the file that is laid
  pub answer-file : (c : Counts) → lines_of_sheet (lines_in t) ≡ Some c → writes list t ≡ accepted (canonical (model_of (sheet_of (lines_in t))))
  unfolding writes
  answer-file c e =
      let k = known in
      let f : line_total m ≤ most_lines = rw k.model (counts_are t (length m.entries) c k.good e).1 in
      rw h (simp (le-leb (line_total m) most_lines f) (ap (λ (x : Model). accepted (canonical x)) k.model))

  -- it has 81 bytes to a line
  pub answer-length : (c : Counts) → lines_of_sheet (lines_in t) ≡ Some c → length (canonical (model_of (sheet_of (lines_in t)))) ≡ 81 * total c
  answer-length c e = let k = known in file-length t (length m.entries) c k.good e k.ranged

  -- they are too many: 19
  pub answer_long : lines_of_sheet (lines_in t) ≡ None → writes list t ≡ refused TooLong 0
  unfolding writes
  answer_long e = rw h (simp (lt-leb (line_total m) most_lines (pick (leb (line_total m) most_lines) refl)))
    where
      never : {c : Counts} → None ≡ Some c → ⊥
      never q = let z : ◌≡◌ {A = ℕ} 0 1 = cc in omega arith

      pick : (b : Bool) → leb (line_total m) most_lines ≡ b → most_lines < line_total m
      pick true q =
          let k = known in
          absurd (never (sym e ∙ few_lines t (length m.entries) k.good (rw (← k.model) (leb-true (line_total m) most_lines q))))
      pick false q = leb-false (line_total m) most_lines q
