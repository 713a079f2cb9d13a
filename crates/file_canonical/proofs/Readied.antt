-- A good sheet whose entries keep their ranges is ready to be laid, and what is laid is its canonical file. Assumes nothing.
use mathlib.Core.Path.{◌≡◌, refl, sym, ap, ◌∙◌}
use mathlib.Core.Bool.{Bool, true, false}
use mathlib.Core.List.{List, [], ◌∷◌, ◌++◌, map, append-nil}
use Prim.Native.Nat.{ℕ, ◌+◌, ◌*◌, ◌≤◌}
use native.Mathlib.Omega.{arith}
use lib.ListN.{length, length-append, length-map}
use lib.Dec.{leb}
use borrow.Author.Tests.{leb-true, leb-false}
use Rattle.std.proofs.Common.{Ok, None, Some}
use Rattle.columns.specs.Columns.{joined}
use Rattle.columns.specs.Decimal.{to_left}
use Rattle.columns.specs.Laid.{Wrote}
use Rattle.columns.specs.Format.{most_lines}
use Rattle.columns.proofs.Writes.{wrote_same, wrote_length}
use Rattle.values.specs.Value.{Item}
use Rattle.records.specs.Flow.{line_count}
use Rattle.cards.specs.declared.Counts.{Counts}
use Rattle.cards.specs.Cards.{total}
use Rattle.cards.specs.Written.{line_of, section, totals_of, file_lines, file_of, one}
use Rattle.sheets.specs.Sheet.{Line, Sheet, row_lines, lines_of, lines_in, sheet_of}
use Rattle.sheets.specs.Order.{verdict_of}
use Rattle.sheets.specs.WellFormed.{Each}
use Rattle.sheets.proofs.Sheets.{good_written}
use Rattle.model.specs.Model.{Carried, Model, carried_of, model_of}
use Rattle.model.specs.Canonical.{start_lines as start_texts, global_text, global_lines as global_texts, directory_lines, parameter_lines, line_total, canonical}
use Rattle.file_blocks.specs.Blocks.{behind_globals, global_bytes}
use Rattle.file_canonical.specs.Counting.{lines_of_sheet}
use Rattle.file_canonical.specs.Laying.{starts_first, behind_starts, start_bytes, entries_in, directory_bytes, parameter_bytes, fields_in, file_bytes, Ranged, Ready}
use Rattle.file_canonical.proofs.Totals.{counts_for, directory_two, global_count, start-count}
use Rattle.file_canonical.proofs.Good.{few_lines, many-lines}
use Rattle.file_canonical.proofs.Sections.{joined_both, Wide, section-length, global_length, parameter_length}
use Rattle.file_canonical.proofs.Turns.{entries-rows}
use Rattle.file_canonical.proofs.Parts.{sheet-starts, sheet_fields, sheet-rows, sheet-entries}
use Rattle.file_canonical.proofs.Wides.{directory_wide, starts_wide, last_length}

-- ---- a good sheet

same_counts : {a b : Counts} → Some a ≡ Some b → a ≡ b
same_counts e = cc

never_many : {a : Counts} → None ≡ Some a → ⊥
never_many e = let z : ◌≡◌ {A = ℕ} 0 1 = cc in omega arith

five : (a b c d e : List (List ℕ)) → joined (a ++ (b ++ (c ++ (d ++ e)))) ≡ joined a ++ (joined b ++ (joined c ++ (joined d ++ joined e)))
five a b c d e = simp joined_both

last_joined : (x : List ℕ) → joined (x ∷ []) ≡ x
unfolding joined
last_joined x = append-nil x

whole_file : (m : Model) → start_bytes 1 m.starts ++ (global_bytes m.globals ++ (directory_bytes 0 1 m.entries ++ (parameter_bytes 0 1 m.entries ++ line_of (totals_of (counts_for m)) 84 1))) ≡ canonical m
unfolding start_bytes global_bytes directory_bytes parameter_bytes canonical file_of file_lines start_texts global_texts
whole_file m =
    let (S, G, D, P) : List (List ℕ) × List (List ℕ) × List (List ℕ) × List (List ℕ) = (start_texts m, global_texts m, directory_lines 1 1 m.entries, parameter_lines 1 m.entries) in
    let x = line_of (totals_of (counts_for m)) 84 1 in
    sym (five (section 83 1 S) (section 71 1 G) (section 68 1 D) (section 80 1 P) (x ∷ []) ∙ rw (last_joined x))

module _ (t : List ℕ) (n : ℕ) (c : Counts) (good : verdict_of t ≡ Ok n) (counted : lines_of_sheet (lines_in t) ≡ Some c) where
  abbrev sheet : Sheet
  sheet = sheet_of (lines_in t)

  abbrev model : Model
  model = model_of sheet

  -- its counts are those of its canonical file, which may have so many lines
  pub counts_are : (c ≡ counts_for model) × (line_total model ≤ most_lines)
  counts_are = pick (leb (line_total model) most_lines) refl
    where
      pick : (b : Bool) → leb (line_total model) most_lines ≡ b → (c ≡ counts_for model) × (line_total model ≤ most_lines)
      pick true e = let h : line_total model ≤ most_lines = leb-true (line_total model) most_lines e in (same_counts (sym counted ∙ few_lines t n good h), h)
      pick false e = absurd (never_many (sym (many-lines t n good (leb-false (line_total model) most_lines e)) ∙ counted))

  -- the lines are those of the sheet
  lines_are : lines_in t ≡ lines_of sheet
  lines_are = (good_written t n good).lines

  entries_are : entries_in (lines_in t) ≡ map carried_of sheet.rows
  entries_are = ap entries_in lines_are ∙ sheet-entries sheet

  model-parts : (model.starts ≡ sheet.starts) × (model.globals ≡ sheet.globals) × (model.entries ≡ map carried_of sheet.rows)
  unfolding model_of
  model-parts = (refl, refl, refl)

  starts_same : starts_first (lines_in t) ≡ model.starts
  starts_same = ap starts_first lines_are ∙ sheet-starts sheet ∙ sym model-parts.0

  fields_same : fields_in (lines_in t) ≡ model.globals
  fields_same = ap fields_in lines_are ∙ sheet_fields sheet ∙ sym model-parts.1

  entries_same : entries_in (lines_in t) ≡ model.entries
  entries_same = entries_are ∙ sym model-parts.2

  rows_are : behind_globals (behind_starts (lines_in t)) ≡ row_lines 0 sheet.rows
  rows_are = ap (λ (ls : List Line). behind_globals (behind_starts ls)) lines_are ∙ sheet-rows sheet

  few_total : total c ≤ most_lines
  unfolding line_total
  few_total = rw counts_are.0 counts_are.1

  rows-count : length (entries_in (lines_in t)) ≡ n
  rows-count = ap length entries_are ∙ length-map sheet.rows carried_of ∙ sym (good_written t n good).count

  d-count : c.d ≡ 2 * n
  d-count = ap (λ (x : Counts). x.d) counts_are.0 ∙ directory_two 1 1 model.entries ∙ ap (λ (k : ℕ). 2 * k) (ap length (sym entries_same) ∙ rows-count)

  p-count : length (parameter_lines 1 (entries_in (lines_in t))) ≡ c.p
  p-count = ap (λ (es : List Carried). length (parameter_lines 1 es)) entries_same ∙ sym (ap (λ (x : Counts). x.p) counts_are.0)

  module _ (ranged : Each Ranged sheet.rows) where
    d_wide : Wide (directory_lines 1 1 (entries_in (lines_in t)))
    d_wide = rw entries_are (directory_wide (good_written t n good).formed.spelt.rows ranged 1 1 (omega arith) (rw (← entries_are) (omega (arith, p-count, few_total))))

    d-bytes : length (directory_bytes 0 1 (entries_in (lines_in t))) ≡ 81 * c.d
    unfolding directory_bytes
    d-bytes =
        let l : length (directory_lines 1 1 (entries_in (lines_in t))) ≡ c.d = directory_two 1 1 (entries_in (lines_in t)) ∙ ap (λ (k : ℕ). 2 * k) rows-count ∙ sym d-count in
        section-length 68 1 d_wide (omega (arith, few_total)) ∙ ap (λ (k : ℕ). 81 * k) l

    -- it is ready
    pub good_ready : Ready (lines_in t) n c
    good_ready = record {
      few = few_total;
      s = ap length starts_same ∙ sym (start-count model) ∙ sym (ap (λ (x : Counts). x.s) counts_are.0);
      g = ap (λ (gs : List (ℕ × Item)). line_count 72 (length (global_text gs))) fields_same ∙ sym (global_count model) ∙ sym (ap (λ (x : Counts). x.g) counts_are.0);
      rows = sheet.rows;
      lines = rows_are;
      entries = ap entries_in rows_are ∙ entries-rows 0 sheet.rows ∙ sym entries_are;
      count = rows-count;
      d = d-bytes;
      two = d-count;
      p = p-count;
    }

  -- the sections one behind the other are the file
  pub file-is : file_bytes (lines_in t) c ≡ canonical model
  unfolding file_bytes
  file-is = rw (starts_same, fields_same, entries_same, counts_are.0) (whole_file model)

  pub file_wrote : {o o' : List ℕ} {at r : ℕ} → Wrote o at (file_bytes (lines_in t) c) o' r → Wrote o at (canonical model) o' r
  file_wrote w = wrote_same w file-is

  module _ (ranged : Each Ranged sheet.rows) where
    starts-bytes : length (start_bytes 1 (starts_first (lines_in t))) ≡ 81 * c.s
    unfolding start_bytes
    starts-bytes =
        let l : length (map (to_left 72) (starts_first (lines_in t))) ≡ c.s = length-map (starts_first (lines_in t)) (to_left 72) ∙ (good_ready ranged).s in
        section-length 83 1 (rw (starts_same ∙ model-parts.0) (starts_wide (good_written t n good).formed.spelt.starts)) (omega (arith, few_total)) ∙ ap (λ (k : ℕ). 81 * k) l

    -- 81 bytes to a line
    bytes-length : length (file_bytes (lines_in t) c) ≡ 81 * total c
    unfolding file_bytes
    bytes-length =
        let f = few_total in
        let G = global_bytes (fields_in (lines_in t)) in
        let D = directory_bytes 0 1 (entries_in (lines_in t)) in
        let P = parameter_bytes 0 1 (entries_in (lines_in t)) in
        let T = line_of (totals_of c) 84 1 in
        let one : c.t ≡ 1 = ap (λ (x : Counts). x.t) counts_are.0 in
        length-append (start_bytes 1 (starts_first (lines_in t))) (G ++ (D ++ (P ++ T)))
        ∙ omega (
          arith,
          length-append G (D ++ (P ++ T)),
          length-append D (P ++ T),
          length-append P T,
          starts-bytes,
          global_length (fields_in (lines_in t)) c.g (good_ready ranged).g (omega arith),
          d-bytes ranged,
          parameter_length (entries_in (lines_in t)) c.p p-count (omega arith) (omega (arith, rows-count, d-count)),
          last_length c f,
        )

    pub file-length : length (canonical model) ≡ 81 * total c
    file-length = sym (ap length file-is) ∙ bytes-length

    pub file-end : {o o' : List ℕ} {r : ℕ} → Wrote o 0 (file_bytes (lines_in t) c) o' r → r ≡ 81 * total c
    file-end w = omega (arith, w.next, bytes-length)

pub ruleset readied = (good_ready, file_wrote, file-end, wrote_length)
