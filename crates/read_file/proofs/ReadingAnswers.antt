-- The answer of reading into a buffer, and what is left in it. Assumes nothing.
use mathlib.Core.Path.{◌≡◌, refl}
use mathlib.Core.List.{List}
use Prim.Native.Nat.{ℕ, ◌≤◌, ◌<◌}
use lib.ListN.{length}
use Rattle.columns.specs.declared.Fault.{Fault}
use Rattle.columns.specs.declared.Fault.TheVariants.{Room}
use Rattle.columns.specs.declared.FileLine.{FileLine}
use Rattle.columns.specs.Laid.{Wrote}
use Rattle.columns.specs.Refusal.{accepted, refused, number}
use Rattle.columns.proofs.Writes.{wrote_length}
use Rattle.cards.specs.declared.Counts.{Counts}
use Rattle.model.specs.Read.{reads}
use Rattle.std.specs.Prelude.{Result, Ok, Err}
use Rattle.columns.specs.declared.Refusal.{Refusal}
use Rattle.read_passes.specs.Passes.{told}
use Rattle.read_weights.specs.declared.Weight.{Weight}
use Rattle.read_weights.specs.Checks.{check_of}
use Rattle.read_weights.specs.Weights.{Weighing, rows_length, weight_of, Light}
use Rattle.read_weights.proofs.Facts.{checked_no_sheet}
use Rattle.read_weights.proofs.Weights.{weight_refused, weight_good, weight_rows, weight_few}
use Rattle.desk.specs.declared.Answer.{Answer}
use Rattle.desk.specs.Answers.{answer, answer_of, left_in}
use Rattle.desk.specs.Reading.{sheet_in}
use Rattle.desk.proofs.Answered as answered
use Rattle.read_file.proofs.Reading.{reads-sheet}

module _ (list : ℕ) (f o : List ℕ) (r : Weighing) (er : r ≡ weight_of list f (check_of list f)) where
  module _ (n : Refusal FileLine) (e : r ≡ Err n) where
    refuses : reads list f ≡ refused n.fault n.line.0
    refuses = checked_no_sheet list f (Err n) (weight_refused list f er n e) n refl

    pub refused_answer : (y : Answer) → y ≡ answer (number n.fault) n.line.0 0 → y ≡ answer_of (length o) (reads list f)
    refused_answer = answered.refused_answer (reads list f) o n.fault n.line.0 refuses

    pub refused_left : o ≡ left_in o (reads list f)
    refused_left = answered.refused_left (reads list f) o n.fault n.line.0 refuses

  module _ (w : Weight) (e : r ≡ Ok w) where
    pub good_here : Ok (told w.told.counts w.told.parameter w.told.closing) ≡ check_of list f
    good_here = weight_good list f er w e

    pub rows-here : w.rows ≡ rows_length list f w.told.counts w.told.parameter w.told.closing
    rows-here = weight_rows list f er w e

    pub rows_few : (m : ℕ) → Light m r → w.rows ≤ m
    rows_few m h = weight_few list f er w e m h

    accepts : reads list f ≡ accepted (sheet_in list f)
    accepts = reads-sheet list f w.told.counts w.told.parameter w.told.closing good_here

    module _ (k : ℕ) (ek : k ≡ length (sheet_in list f)) where
      pub short_answer : (y : Answer) → length o < k → y ≡ answer (number Room) 0 k → y ≡ answer_of (length o) (reads list f)
      short_answer = answered.short_answer (reads list f) o (sheet_in list f) accepts k ek

      pub short_left : length o < k → o ≡ left_in o (reads list f)
      short_left = answered.short_left (reads list f) o (sheet_in list f) accepts k ek

      module _ (h : k ≤ length o) (o' : List ℕ) (t : ℕ) (x : Wrote o 0 (sheet_in list f) o' t) where
        pub good_answer : answer 0 0 t ≡ answer_of (length o) (reads list f)
        good_answer = answered.whole_answer (reads list f) o (sheet_in list f) accepts k ek h o' t x

        pub good_left : o' ≡ left_in o (reads list f)
        good_left = answered.whole_left (reads list f) o (sheet_in list f) accepts k ek h o' t x

pub ruleset readings = (refused_answer, refused_left, good_here, rows-here, rows_few, short_answer, short_left, good_answer, good_left, wrote_length)
