-- The texts of two sheets that are alike but for what only the larger list knows differ in mark letters alone, so they are as long. Assumes nothing.
use mathlib.Core.Path.{◌≡◌, refl, ap}
use mathlib.Core.Bool.{Bool, true, false}
use mathlib.Core.List.{List, [], ◌∷◌, ◌++◌, map}
use Prim.Native.Nat.{ℕ, suc, ◌+◌, ◌*◌}
use lib.ListN.{length}
use Rattle.columns.specs.declared.Signed.{Signed}
use Rattle.values.specs.Value.{Item, spelled}
use Rattle.directory.specs.declared.Fields.{Fields}
use Rattle.directory.specs.Fields.{in_order}
use Rattle.sheets.specs.Plain.{sized}
use Rattle.sheets.specs.Line.{number_count, spells, entry_line}
use Rattle.sheets.specs.Sheet.{Row, Sheet, Line, start, global, entry, value, last, start_lines, global_lines, value_lines, row_lines, lines_of, line_of, text_of, sheet_text}
use Rattle.desk.specs.Demands.{unmarked, same as same_row, marks_only, AllAlike, none as no_rows, more, SheetsAlike}
use Rattle.demands.specs.Letters.{LettersOnly, none, same, known, reference}

pub letters_length : {s t : List ℕ} → LettersOnly s t → length s ≡ length t
letters_length none = refl
letters_length (same b r) = ap suc (letters_length r)
letters_length (known r) = ap suc (letters_length r)
letters_length (reference r) = ap suc (letters_length r)

-- the same in front of both
front : {s t : List ℕ} (bs : List ℕ) → LettersOnly s t → LettersOnly (bs ++ s) (bs ++ t)
front [] r = r
front (b ∷ bs) r = same b (front bs r)

-- ---- two lists of lines, but for the marks

data Lines : List Line → List Line → Type 0 where
  end : Lines [] []
  line : {ls ms : List Line} (l : Line) → Lines ls ms → Lines (l ∷ ls) (l ∷ ms)
  entries : {ls ms : List Line} (n : Signed) (x : Fields) (label : List ℕ) → Lines ls ms → Lines (entry false n x label ∷ ls) (entry true n x label ∷ ms)
  references : {ls ms : List Line} (v : Item) → Lines ls ms → Lines (value false v ∷ ls) (value true v ∷ ms)

texts : {ls ms : List Line} → Lines ls ms → LettersOnly (text_of ls) (text_of ms)
unfolding text_of line_of entry_line
texts end = none
texts (line l r) = front (line_of l) (same 10 (texts r))
texts (entries n x label r) = known (same 9 (front (spells number_count (sized false n.size ∷ in_order x) ++ label) (same 10 (texts r))))
texts (references v r) = reference (same 9 (front (spelled v) (same 10 (texts r))))

starts : {ls ms : List Line} (ts : List (List ℕ)) → Lines ls ms → Lines (start_lines ts ls) (start_lines ts ms)
unfolding start_lines
starts [] r = r
starts (t ∷ ts) r = line (start t) (starts ts r)

globals : {ls ms : List Line} (gs : List (ℕ × Item)) → Lines ls ms → Lines (global_lines gs ls) (global_lines gs ms)
unfolding global_lines
globals [] r = r
globals (g ∷ gs) r = line (global g.0 g.1) (globals gs r)

-- values with the same marks
values : {ls ms : List Line} (vs : List (Bool × Item)) → Lines ls ms → Lines (value_lines vs ls) (value_lines vs ms)
unfolding value_lines
values [] r = r
values (v ∷ vs) r = line (value v.0 v.1) (values vs r)

-- values that are all marked V, and the same with their marks
values_more : {ls ms : List Line} (vs : List (Bool × Item)) → Lines ls ms → Lines (value_lines (map unmarked vs) ls) (value_lines vs ms)
unfolding value_lines
values_more [] r = r
values_more ((true, v) ∷ vs) r = references v (values_more vs r)
values_more ((false, v) ∷ vs) r = line (value false v) (values_more vs r)

module _ (small large : ℕ) where
  rows : {rs qs : List Row} → AllAlike small large rs qs → (k : ℕ) → Lines (row_lines k rs) (row_lines k qs)
  unfolding row_lines
  rows no_rows k = line (last k) end
  rows (more (same_row r) others) k = line _ (values r.values (rows others (k + 1)))
  rows (more (marks_only x label vs p q) others) k = entries (sized false (2 * k + 1)) x label (values_more vs (rows others (k + 1)))

  pub letters : (s t : Sheet) → SheetsAlike small large s t → LettersOnly (sheet_text s) (sheet_text t)
  unfolding sheet_text lines_of
  letters s t a = rw (a.starts, a.globals) (texts (starts t.starts (globals t.globals (rows a.rows 0))))
