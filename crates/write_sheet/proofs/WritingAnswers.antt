-- The answer of writing into a buffer, and what is left in it. Assumes nothing.
use mathlib.Core.Path.{◌≡◌, sym, ◌∙◌}
use mathlib.Core.List.{List}
use Prim.Native.Nat.{ℕ, ◌*◌, ◌≤◌, ◌<◌}
use lib.ListN.{length}
use Rattle.std.proofs.Common.{Ok, Err, None, Some}
use Rattle.columns.specs.declared.Fault.{Fault}
use Rattle.columns.specs.declared.Fault.TheVariants.{Room, TooLong}
use Rattle.columns.specs.declared.Refusal.{Refusal}
use Rattle.columns.specs.declared.SheetLine.{SheetLine}
use Rattle.columns.specs.Laid.{Wrote}
use Rattle.columns.specs.Refusal.{accepted, refused, number}
use Rattle.columns.proofs.Writes.{wrote_length}
use Rattle.cards.specs.declared.Counts.{Counts}
use Rattle.cards.specs.Cards.{total}
use Rattle.sheets.specs.Sheet.{lines_in, sheet_of}
use Rattle.sheets.specs.Order.{verdict_of}
use Rattle.sheets.specs.WellFormed.{Each}
use Rattle.model.specs.Model.{model_of}
use Rattle.model.specs.Canonical.{canonical}
use Rattle.model.specs.Write.{write_model, writes}
use Rattle.write_check.specs.declared.Ruled.{Ruled}
use Rattle.write_check.specs.Answers.{Ruling, ruled_of}
use Rattle.write_check.proofs.Facts.{Passed, ruled_good, ruled_refused}
use Rattle.file_canonical.specs.Counting.{lines_of_sheet}
use Rattle.file_canonical.specs.Laying.{Ranged}
use Rattle.file_canonical.proofs.Answers.{passed, answer-file, answer-length, answer_long}
use Rattle.desk.specs.declared.Answer.{Answer}
use Rattle.desk.specs.Answers.{answer, answer_of, left_in}
use Rattle.desk.proofs.Answered as answered

-- a sheet that is refused by its checks
not_written : (list : ℕ) (t : List ℕ) (n : Fault) (place : ℕ) → write_model list t ≡ refused n place → writes list t ≡ refused n place
unfolding writes
not_written list t n place e = rw e

module _ (list : ℕ) (t o : List ℕ) (r : Ruling) (er : r ≡ ruled_of list t) where
  module _ (w : Refusal SheetLine) (e : r ≡ Err w) where
    refuses : writes list t ≡ refused w.fault w.line.0
    refuses = not_written list t w.fault w.line.0 (ruled_refused list t w (sym e ∙ er))

    pub refused_answer : (y : Answer) → y ≡ answer (number w.fault) w.line.0 0 → y ≡ answer_of (length o) (writes list t)
    refused_answer = answered.refused_answer (writes list t) o w.fault w.line.0 refuses

    pub refused_left : o ≡ left_in o (writes list t)
    refused_left = answered.refused_left (writes list t) o w.fault w.line.0 refuses

  module _ (d : Ruled) (e : r ≡ Ok d) where
    good : Passed list t d.entries d.lines
    good = ruled_good list t d.entries d.lines (sym e ∙ er)

    module _ (many : d.lines ≡ None) where
      long : writes list t ≡ refused TooLong 0
      long = answer_long list t (model_of (sheet_of (lines_in t))) good.model (sym good.lines ∙ many)

      pub long_answer : (y : Answer) → y ≡ answer (number TooLong) 0 0 → y ≡ answer_of (length o) (writes list t)
      long_answer = answered.refused_answer (writes list t) o TooLong 0 long

      pub long_left : o ≡ left_in o (writes list t)
      long_left = answered.refused_left (writes list t) o TooLong 0 long

    module _ (c : Counts) (few : d.lines ≡ Some c) where
      -- what laying the file needs
      pub needs_good : verdict_of t ≡ Ok d.entries
      needs_good = good.verdict

      pub needs_counts : lines_of_sheet (lines_in t) ≡ Some c
      needs_counts = sym good.lines ∙ few

      pub needs_ranges : Each Ranged (sheet_of (lines_in t)).rows
      needs_ranges = (passed list t (model_of (sheet_of (lines_in t))) good.model).ranged

      accepts : writes list t ≡ accepted (canonical (model_of (sheet_of (lines_in t))))
      accepts = answer-file list t (model_of (sheet_of (lines_in t))) good.model c needs_counts

      module _ (b : ℕ) (eb : b ≡ 81 * total c) where
        size : b ≡ length (canonical (model_of (sheet_of (lines_in t))))
        size = eb ∙ sym (answer-length list t (model_of (sheet_of (lines_in t))) good.model c needs_counts)

        pub short_answer : (y : Answer) → length o < b → y ≡ answer (number Room) 0 b → y ≡ answer_of (length o) (writes list t)
        short_answer = answered.short_answer (writes list t) o (canonical (model_of (sheet_of (lines_in t)))) accepts b size

        pub short_left : length o < b → o ≡ left_in o (writes list t)
        short_left = answered.short_left (writes list t) o (canonical (model_of (sheet_of (lines_in t)))) accepts b size

        module _ (h : b ≤ length o) (o' : List ℕ) (end : ℕ) (w : Wrote o 0 (canonical (model_of (sheet_of (lines_in t)))) o' end) where
          pub good_answer : answer 0 0 end ≡ answer_of (length o) (writes list t)
          good_answer = answered.whole_answer (writes list t) o (canonical (model_of (sheet_of (lines_in t)))) accepts b size h o' end w

          pub good_left : o' ≡ left_in o (writes list t)
          good_left = answered.whole_left (writes list t) o (canonical (model_of (sheet_of (lines_in t)))) accepts b size h o' end w

pub ruleset writings = (
  refused_answer,
  refused_left,
  long_answer,
  long_left,
  needs_good,
  needs_counts,
  needs_ranges,
  short_answer,
  short_left,
  good_answer,
  good_left,
  wrote_length,
)
