-- The checks one after another: the list, the sheet's lines, the passes. The first that refuses is the sheet's refusal.
use Rattle.std.proofs.Common.{◌≡◌, ℕ, suc, Bool, true, false, leb, List, [], ◌∷◌, map, length, sym, refl, ap, ◌∙◌, Err, Ok}
use borrow.Author.Tests.{not-true, not-false}
use Rattle.columns.specs.declared.Refusal.{Refusal}
use Rattle.columns.specs.declared.Fault.TheVariants.{ListOrLength, SheetLine as WrongSheet}
use Rattle.columns.specs.declared.SheetLine.{SheetLine}
use Rattle.columns.specs.Refusal.{Outcome, accepted, refused, ◌then◌, refusal_at}
use Rattle.columns.specs.Format.{most_list}
use Rattle.sheets.specs.Sheet.{Sheet, lines_in, sheet_of}
use Rattle.sheets.specs.Order.{sheet_line, verdict_of, read_sheet, SheetVerdict}
use Rattle.sheets.proofs.Sheets.{Written, good_written, read_good, read-wrong}
use Rattle.model.specs.Model.{Model, type_of, fields_in, carried_of, model_of}
use Rattle.model.specs.Write.{row_types, sheet_rules, write_model}
use Rattle.file_canonical.specs.Counting.{lines_of_sheet, Lines}
use Rattle.write_lines.specs.Lines.{pass_of, or_else, SheetPass}
use Rattle.write_lines.specs.Classes.{sheet_types}
use Rattle.write_lines.specs.Passes.{rules_pass, references_pass, entities_pass, sheet_pass}
use Rattle.write_check.specs.Answers.{Ruling, ruled, told, ruled_of}
use Rattle.write_check.proofs.Sheets.{types_are, sheet-pass}

-- ---- the passes

module _ (list : ℕ) (t : List ℕ) where
  module _ (x : SheetPass) (ex : x ≡ rules_pass t) where
    pub rules_refuse : (w : Refusal SheetLine) → x ≡ Err w → Err w ≡ sheet_pass list t
    unfolding sheet_pass
    rules_refuse w e = rw (← ex, e)

    pub names_decide : (r : SheetPass) → x ≡ Ok tt → r ≡ or_else (references_pass t) (entities_pass list t) → r ≡ sheet_pass list t
    unfolding sheet_pass
    names_decide r e er = rw (← ex, e) er

pub ruleset passing = (rules_refuse, names_decide)

-- ---- all

mapped : {A B : Type 0} (f : A → B) (xs : List A) → length (map f xs) ≡ length xs
mapped f [] = refl
mapped f (x ∷ xs) = ap suc (mapped f xs)

row_count : (s : Sheet) → length (row_types s) ≡ length s.rows
unfolding model_of
row_count s = mapped type_of (map fields_in (map carried_of s.rows)) ∙ mapped fields_in (map carried_of s.rows) ∙ mapped carried_of s.rows

entry-count : (s : Sheet) → length (model_of s).entries ≡ length s.rows
unfolding model_of
entry-count s = mapped carried_of s.rows

-- the entry count and the lines, where a pass is good
abbrev ruled_with : Lines → SheetPass → ℕ → Ruling
ruled_with k (Ok u) n = ruled n k
ruled_with k (Err w) n = Err w

ruled_with_lem : (k : Lines) (o : Outcome (Unit {0})) (m : Model) → told k (o then λ _. accepted m) ≡ ruled_with k (pass_of o) (length m.entries)
ruled_with_lem k (accepted a) m = refl
ruled_with_lem k (refused n p) m = refl

abbrev lines : List ℕ → Lines
lines t = lines_of_sheet (lines_in t)

module _ (list : ℕ) (t : List ℕ) (b : Bool) (eb : b ≡ leb list most_list) where
  pub check_list : b ≡ false → Err (refusal_at ListOrLength (sheet_line 0)) ≡ ruled_of list t
  unfolding ruled_of write_model
  check_list e = rw (← eb, e)

  module _ (e : b ≡ true) (v : SheetVerdict) (ev : v ≡ verdict_of t) where
    read : told (lines t) (read_sheet t then λ s. sheet_rules list s then λ _. accepted (model_of s)) ≡ ruled_of list t
    unfolding ruled_of write_model
    read = rw (← eb, e)

    pub check_sheet : (w : SheetLine) → v ≡ Err w → Err (refusal_at WrongSheet w) ≡ ruled_of list t
    check_sheet w h = sym (ap (λ (o : Outcome Sheet). told (lines t) (o then λ s. sheet_rules list s then λ _. accepted (model_of s))) (read-wrong t w (sym ev ∙ h))) ∙ read

    module _ (n : ℕ) (h : v ≡ Ok n) (y : SheetPass) (ey : y ≡ sheet_pass list t) where
      decided : ruled_with (lines t) y n ≡ ruled_of list t
      decided =
          let w : Written t n (sheet_of (lines_in t)) = good_written t n (sym ev ∙ h) in
          let s : Sheet = sheet_of (lines_in t) in
          let c : n ≡ length (model_of s).entries = w.count ∙ sym (entry-count s) in
          let p : y ≡ pass_of (sheet_rules list s) = ey ∙ sheet-pass list t s w.lines in
          ap (ruled_with (lines t) y) c ∙ ap (λ (q : SheetPass). ruled_with (lines t) q (length (model_of s).entries)) p ∙ sym (ruled_with_lem (lines t) (sheet_rules list s) (model_of s))
          ∙ sym (ap (λ (o : Outcome Sheet). told (lines t) (o then λ s. sheet_rules list s then λ _. accepted (model_of s))) (read_good t n (sym ev ∙ h))) ∙ read

      pub check_pass : (w : Refusal SheetLine) → y ≡ Err w → Err w ≡ ruled_of list t
      check_pass w k = sym (ap (λ (q : SheetPass). ruled_with (lines t) q n) k) ∙ decided

      pub check_good : (k : Lines) → k ≡ lines t → y ≡ Ok tt → ruled n k ≡ ruled_of list t
      check_good k ek g = ap (ruled n) ek ∙ sym (ap (λ (q : SheetPass). ruled_with (lines t) q n) g) ∙ decided

-- a good sheet has as many types as entries
pub good_count : (t : List ℕ) (v : SheetVerdict) (n : ℕ) → v ≡ verdict_of t → v ≡ Ok n → n ≡ length (sheet_types t)
good_count t v n ev h =
    let w : Written t n (sheet_of (lines_in t)) = good_written t n (sym ev ∙ h) in
    w.count ∙ sym (row_count (sheet_of (lines_in t))) ∙ ap length (sym (types_are t (sheet_of (lines_in t)) w.lines))

pub ruleset checks = (not-true, not-false, check_list, check_sheet, check_pass, check_good, good_count)
