-- The passes over a sheet's lines ask what the paper asks of the sheet, in its order and at its places. Assumes nothing.
use Rattle.std.proofs.Common.{◌≡◌, ℕ, suc, ◌+◌, Bool, List, [], ◌∷◌, map, length, sym, refl, ap, ◌∙◌, arith, Ok}
use Rattle.columns.specs.Refusal.{Outcome, accepted, refused, each_at, ◌then◌}
use Rattle.values.specs.Value.{Item}
use Rattle.sheets.specs.Sheet.{Line, Row, Sheet, start_lines, global_lines, value_lines, row_lines, lines_of, lines_in}
use Rattle.sheets_rows.specs.Rows.{types_in}
use Rattle.sheets_rows.proofs.Rows.{values_first_lem, row_type, types-sheet}
use Rattle.model.specs.Model.{type_of, fields_in, carried_of, model_of}
use Rattle.model.specs.Write.{one, row_size, first_global, first_row, global_rule, row_rules, row_references, row_entity_rules, row_types, sheet_rules}
use Rattle.write_lines.specs.Lines.{pass_of, or_else, OfGlobal, OfRow, no_rule, lines_pass, SheetPass}
use Rattle.write_lines.specs.Classes.{sheet_types}
use Rattle.write_lines.specs.Passes.{rules_pass, references_pass, entities_pass, sheet_pass}
use Rattle.write_lines.proofs.Lines.{or_assoc}

-- ---- passes one after another

pass_each : {A : Type 0} (o : Outcome A) (xs : Outcome (List A)) → pass_of (o then λ z. xs then λ zs. accepted (z ∷ zs)) ≡ or_else (pass_of o) (pass_of xs)
pass_each (accepted a) (accepted bs) = refl
pass_each (accepted a) (refused n p) = refl
pass_each (refused n p) xs = refl

-- ---- a pass over the lines of a sheet

module _ (g : OfGlobal) (f : OfRow) where
  moved : (p q : ℕ) (ls : List Line) → p ≡ q → lines_pass g f p ls ≡ lines_pass g f q ls
  moved p q ls e = ap (λ (k : ℕ). lines_pass g f k ls) e

  pass-starts : (ts : List (List ℕ)) (ls : List Line) (k : ℕ) → lines_pass g f k (start_lines ts ls) ≡ lines_pass g f (k + length ts) ls
  unfolding lines_pass start_lines
  pass-starts [] ls k = moved k (k + 0) ls (omega arith)
  pass-starts (t ∷ ts) ls k = pass-starts ts ls (k + 1) ∙ moved (k + 1 + length ts) (k + suc (length ts)) ls (omega arith)

  pass_values : (vs : List (Bool × Item)) (ls : List Line) (k : ℕ) → lines_pass g f k (value_lines vs ls) ≡ lines_pass g f (k + length vs) ls
  unfolding lines_pass value_lines
  pass_values [] ls k = moved k (k + 0) ls (omega arith)
  pass_values (v ∷ vs) ls k = pass_values vs ls (k + 1) ∙ moved (k + 1 + length vs) (k + suc (length vs)) ls (omega arith)

  pass-globals : (gs : List (ℕ × Item)) (ls : List Line) (k : ℕ) → lines_pass g f k (global_lines gs ls) ≡ or_else (pass_of (each_at one g k gs)) (lines_pass g f (k + length gs) ls)
  unfolding lines_pass global_lines each_at
  pass-globals [] ls k = moved k (k + 0) ls (omega arith)
  pass-globals (x ∷ gs) ls k =
      ap (or_else (pass_of (g k x))) (pass-globals gs ls (k + 1) ∙ ap (or_else (pass_of (each_at one g (k + 1) gs))) (moved (k + 1 + length gs) (k + suc (length gs)) ls (omega arith)))
      ∙ sym (or_assoc (pass_of (g k x)) (pass_of (each_at one g (k + 1) gs)) (lines_pass g f (k + suc (length gs)) ls))
      ∙ ap (λ (p : SheetPass). or_else p (lines_pass g f (k + suc (length gs)) ls)) (sym (pass_each (g k x) (each_at one g (k + 1) gs)))

  pass-rows : (rs : List Row) (j k : ℕ) → lines_pass g f k (row_lines j rs) ≡ pass_of (each_at row_size f k rs)
  unfolding lines_pass row_lines each_at
  pass-rows [] j k = refl
  pass-rows (r ∷ rs) j k =
      rw (values_first_lem r.values (j + 1) rs)
      (ap (or_else (pass_of (f k r))) (pass_values r.values (row_lines (j + 1) rs) (k + 1) ∙ moved (k + 1 + length r.values) (k + row_size r) (row_lines (j + 1) rs) (omega arith) ∙ pass-rows rs (j + 1) (k + row_size r))
      ∙ sym (pass_each (f k r) (each_at row_size f (k + row_size r) rs)))

  pub pass-sheet : (s : Sheet) → lines_pass g f 1 (lines_of s) ≡ or_else (pass_of (each_at one g (first_global s) s.globals)) (pass_of (each_at row_size f (first_row s) s.rows))
  unfolding lines_of
  pass-sheet s =
      let a : 1 + length s.starts ≡ first_global s = omega arith in
      let b : first_global s + length s.globals ≡ first_row s = omega arith in
      pass-starts s.starts (global_lines s.globals (row_lines 0 s.rows)) 1
      ∙ moved (1 + length s.starts) (first_global s) (global_lines s.globals (row_lines 0 s.rows)) a
      ∙ pass-globals s.globals (row_lines 0 s.rows) (first_global s)
      ∙ ap (or_else (pass_of (each_at one g (first_global s) s.globals))) (moved (first_global s + length s.globals) (first_row s) (row_lines 0 s.rows) b ∙ pass-rows s.rows 0 (first_row s))

-- where nothing is asked of G lines
none-asked : (gs : List (ℕ × Item)) (k : ℕ) → pass_of (each_at one no_rule k gs) ≡ Ok tt
unfolding each_at
none-asked [] k = refl
none-asked (x ∷ gs) k = pass_each (accepted tt) (each_at one no_rule (k + 1) gs) ∙ none-asked gs (k + 1)

pub pass-entries : (f : OfRow) (s : Sheet) → lines_pass no_rule f 1 (lines_of s) ≡ pass_of (each_at row_size f (first_row s) s.rows)
pass-entries f s = pass-sheet no_rule f s ∙ ap (λ (p : SheetPass). or_else p (pass_of (each_at row_size f (first_row s) s.rows))) (none-asked s.globals (first_global s))

-- ---- the types

carried-types : (rs : List Row) → map type_of (map fields_in (map carried_of rs)) ≡ map row_type rs
carried-types [] = refl
carried-types (r ∷ rs) = ap (λ (l : List ℕ). r.fields.entity.size ∷ l) (carried-types rs)

pub types_are : (t : List ℕ) (s : Sheet) → lines_in t ≡ lines_of s → sheet_types t ≡ row_types s
unfolding sheet_types model_of
types_are t s e = ap types_in e ∙ types-sheet s ∙ sym (carried-types s.rows)

-- ---- all passes

rules_four : (list : ℕ) (s : Sheet)
    → pass_of (sheet_rules list s)
    ≡ or_else (pass_of (each_at one global_rule (first_global s) s.globals))
    (or_else (pass_of (each_at row_size row_rules (first_row s) s.rows))
    (or_else (pass_of (each_at row_size (row_references (row_types s)) (first_row s) s.rows)) (pass_of (each_at row_size (row_entity_rules list (row_types s)) (first_row s) s.rows))))
unfolding sheet_rules
rules_four list s =
    four (each_at one global_rule (first_global s) s.globals) (each_at row_size row_rules (first_row s) s.rows)
    (each_at row_size (row_references (row_types s)) (first_row s) s.rows) (each_at row_size (row_entity_rules list (row_types s)) (first_row s) s.rows)
  where
    four : {A B C D : Type 0} (a : Outcome A) (b : Outcome B) (c : Outcome C) (d : Outcome D)
        → pass_of (a then λ _. b then λ _. c then λ _. d then λ _. accepted (tt {0})) ≡ or_else (pass_of a) (or_else (pass_of b) (or_else (pass_of c) (pass_of d)))
    four (accepted a) (accepted b) (accepted c) (accepted d) = refl
    four (accepted a) (accepted b) (accepted c) (refused n p) = refl
    four (accepted a) (accepted b) (refused n p) d = refl
    four (accepted a) (refused n p) c d = refl
    four (refused n p) b c d = refl

pub sheet-pass : (list : ℕ) (t : List ℕ) (s : Sheet) → lines_in t ≡ lines_of s → sheet_pass list t ≡ pass_of (sheet_rules list s)
unfolding sheet_pass rules_pass references_pass entities_pass
sheet-pass list t s e =
    rw (types_are t s e, e, pass-sheet global_rule row_rules s, pass-entries (row_references (row_types s)) s, pass-entries (row_entity_rules list (row_types s)) s)
    (or_assoc (pass_of (each_at one global_rule (first_global s) s.globals)) (pass_of (each_at row_size row_rules (first_row s) s.rows)) _ ∙ sym (rules_four list s))
