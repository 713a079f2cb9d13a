-- An entry of a sheet: its line, its values, and the entries behind it. Assumes nothing.
use mathlib.Core.Path.{◌≡◌, refl, sym, ap, ◌∙◌}
use mathlib.Core.Bool.{Bool, false}
use mathlib.Core.List.{List, [], ◌∷◌, map}
use Prim.Native.Nat.{ℕ, ◌+◌, ◌-◌, ◌*◌, ◌≤◌, ◌<◌}
use native.Mathlib.Omega.{arith}
use native.Mathlib.Decide.{ℕ_discrete}
use lib.ListN.{length, drop, length-drop}
use Rattle.std.proofs.Common.{Option, None}
use Rattle.columns.specs.declared.Signed.{Signed}
use Rattle.columns.specs.Columns.{columns}
use Rattle.columns.proofs.Columns.{length-columns}
use Rattle.values.specs.Value.{Item}
use Rattle.directory.specs.declared.Fields.{Fields}
use Rattle.sheets.specs.declared.EntryLine.{EntryLine}
use Rattle.sheets.specs.declared.Said.{Said}
use Rattle.sheets.specs.declared.Said.TheVariants.{Start, Global, Entry, Value as Given, Last, Nothing}
use Rattle.sheets.specs.Plain.{sized}
use Rattle.sheets.specs.Line.{run, entry_of, label_of, entry_got}
use Rattle.sheets.specs.Sheet.{Line, entry, line_from, last_piece, says_of, said_by, lines_in, Row, value_lines, row_lines}
use Rattle.sheets.proofs.Round.{Fits, eight, plain, AllFit, cons, Spelt, same_line, entry_back, label_eight}
use Rattle.sheets.proofs.Walk.{lines_first, line_says}
use Rattle.model.specs.Model.{value_in, carried_of}
use Rattle.sheets_rows.specs.Rows.{value_given, values_first}
use Rattle.sheets_rows.proofs.Rows.{values_laid, behind-laid, all_laid, rows_no_value, values_first_lem}
use Rattle.file_blocks.specs.Blocks.{behind_values, first_begins, items_first}
use Rattle.file_blocks.proofs.Said.{line-part, lines_whole}
use Rattle.file_canonical.specs.Laying.{carried, entry_given, entries_in, entries_at, values_behind, label_before}
use Rattle.sheets.proofs.Limits.{Can, says_can}

-- ---- the entries of rows

pub entries-rows : (k : ℕ) (rs : List Row) → entries_in (row_lines k rs) ≡ map carried_of rs
unfolding entries_in row_lines
entries-rows k [] = refl
entries-rows k (r ∷ rs) = rw (values_first_lem r.values (k + 1) rs, all_laid values_laid entry_given (λ v ls. refl) r.values (row_lines (k + 1) rs), entries-rows (k + 1) rs)

-- behind an entry's values stand the next entries
behind_values_lem : (vs : List (Bool × Item)) (k : ℕ) (rs : List Row) → behind_values (value_lines vs (row_lines k rs)) ≡ row_lines k rs
unfolding values_first behind_values
behind_values_lem vs k rs = behind-laid values_laid value_given (λ v. refl) (row_lines k rs) (rows_no_value k rs) vs

-- no entry and no Z line begins as a value line does
pub rows-begin : (k : ℕ) (rs : List Row) → first_begins (row_lines k rs) ≡ false
unfolding row_lines
rows-begin k [] = refl
rows-begin k (r ∷ rs) = refl

-- ---- an entry line

-- an entry stands at this place, on a line that ends at e, and other entries behind it
pub record RowStands (t : List ℕ) (at k e : ℕ) : Type 0 where
  pub row : Row
  pub rest : List Row
  pub number : Signed
  pub got : entry_of (columns t at e) ≡ entry_got row.known number row.fields
  pub label : label_of (columns t at e) ≡ row.label
  pub high : e < length t
  pub whole : lines_in (drop at t) ≡ row_lines k (row ∷ rest)
  pub lines : lines_in (drop (e + 1) t) ≡ value_lines row.values (row_lines (k + 1) rest)

no_entry_lem : (s : List ℕ) {known : Bool} {n : Signed} {x : Fields} {label : List ℕ} {ls : List Line} → last_piece s ≡ entry known n x label ∷ ls → ⊥
unfolding last_piece
no_entry_lem [] e = let z : ◌≡◌ {A = ℕ} 0 1 = cc in omega arith
no_entry_lem (b ∷ bs) e = let z : ◌≡◌ {A = ℕ} 0 1 = cc in omega arith

-- what is read of an entry line
said-entry : (l : List ℕ) (y : Said) → Can l y → {known : Bool} {n : Signed} {x : Fields} {label : List ℕ} → line_from l y ≡ entry known n x label → (entry_of l ≡ entry_got known n x) × (label_of l ≡ label)
said-entry l Start c q = let z : ◌≡◌ {A = ℕ} 0 1 = cc in absurd (omega arith)
said-entry l (Global n k v) c q = let z : ◌≡◌ {A = ℕ} 0 1 = cc in absurd (omega arith)
said-entry l (Entry known n x) c q = (cc, cc)
said-entry l (Given reference v) c q = let z : ◌≡◌ {A = ℕ} 0 1 = cc in absurd (omega arith)
said-entry l (Last n) c q = let z : ◌≡◌ {A = ℕ} 0 1 = cc in absurd (omega arith)
said-entry l (Nothing b) c q = let z : ◌≡◌ {A = ℕ} 0 1 = cc in absurd (omega arith)

module _ (t : List ℕ) (at k e : ℕ) (en : e ≡ at + run 10 (drop at t)) (lo : at ≤ e) (hi : e ≤ length t) where
  row_stands : (rs : List Row) → lines_in (drop at t) ≡ row_lines k rs → 0 < length (entries_in (row_lines k rs)) → RowStands t at k e
  unfolding row_lines
  row_stands [] q s = absurd (omega (arith, ap length (entries-rows k [])))
  row_stands (r ∷ rs) q s = pick (ℕ_discrete e (length t))
    where
      ls : List Line
      ls = value_lines r.values (row_lines (k + 1) rs)

      pick : Dec (e ≡ length t) → RowStands t at k e
      pick (yes h) = absurd (no_entry_lem (drop at t) (sym (lines_whole t at e en h) ∙ q))
      pick (no h) =
          let l = columns t at e in
          let f : said_by l ∷ lines_in (drop (e + 1) t) ≡ entry r.known (sized false (2 * k + 1)) r.fields r.label ∷ ls = sym (lines_first t at e lo (omega arith) en) ∙ q in
          let a : said_by l ≡ entry r.known (sized false (2 * k + 1)) r.fields r.label = cc in
          let b : lines_in (drop (e + 1) t) ≡ ls = cc in
          let g = said-entry l (says_of l) (says_can l) (sym (line_says l (says_of l) refl) ∙ a) in
          record { row = r; rest = rs; number = sized false (2 * k + 1); got = g.0; label = g.1; high = omega arith; whole = q; lines = b }

module _ {t : List ℕ} {at k e : ℕ} (s : RowStands t at k e) (lo : at ≤ e) where
  -- its entry, and the entries behind it
  stands_spelt : Spelt (columns t at e) s.row.known s.number s.row.fields
  stands_spelt = entry_back (columns t at e) s.row.known s.number s.row.fields s.got

  stands_long : length (columns t at e) ≡ e - at
  stands_long = length-columns t at e lo (omega (arith, s.high))

  stands_eight : length (label_of (columns t at e)) ≡ 8
  stands_eight = label_eight (label_of (columns t at e)) stands_spelt.label

  pub stands_low : at + 8 ≤ e
  unfolding label_of
  stands_low = omega (arith, stands_eight, length-drop (length (columns t at e) - 8) (columns t at e), stands_long)

  pub stands_small : s.row.fields.entity.size ≤ 2147483647
  stands_small = second stands_spelt.fit
    where
      fit_small : {left : ℕ} {x : Signed} → Fits left x → x.size ≤ 2147483647
      fit_small (eight n h) = omega arith
      fit_small (plain h p) = p.small

      second : {n x : Signed} {xs : List Signed} → AllFit 13 (n ∷ (x ∷ xs)) → x.size ≤ 2147483647
      second (cons f (cons g a)) = fit_small g

  -- the label ends the line
  stands_label : s.row.label ≡ label_before t e
  unfolding label_of
  stands_label =
      let q : length (columns t at e) - 8 ≡ e - 8 - at = omega (arith, stands_long) in
      let r : at + (e - 8 - at) ≡ e - 8 = omega (arith, stands_low) in
      sym s.label ∙ rw q (line-part t at (e - 8 - at) e ∙ rw r)

  stands_values : values_behind t e ≡ map value_in s.row.values
  stands_values = ap items_first s.lines ∙ ap (λ (vs : List (Bool × Item)). map value_in vs) (values_first_lem s.row.values (k + 1) s.rest)

  pub stands_behind : behind_values (lines_in (drop (e + 1) t)) ≡ row_lines (k + 1) s.rest
  stands_behind = ap behind_values s.lines ∙ behind_values_lem s.row.values (k + 1) s.rest

  pub stands_entries : entries_at t at ≡ carried s.row.fields (label_before t e) (values_behind t e) ∷ entries_in (row_lines (k + 1) s.rest)
  stands_entries =
      ap entries_in s.whole ∙ entries-rows k (s.row ∷ s.rest)
      ∙ rw (stands_values, ← stands_label, entries-rows (k + 1) s.rest)

  pub stands_fields : {y : Option EntryLine} {known : Bool} {n : Signed} {f : Fields} → y ≡ entry_of (columns t at e) → y ≡ entry_got known n f → s.row.fields ≡ f
  stands_fields p q = let w = s.got in (same_line (sym w ∙ sym p ∙ q)).2

  pub stands_never : {y : Option EntryLine} → y ≡ entry_of (columns t at e) → y ≡ None → ⊥
  stands_never p q = let w = s.got in let z : ◌≡◌ {A = ℕ} 0 1 = differ (sym w ∙ sym p ∙ q) in omega arith
    where
      differ : {a : Bool} {n : Signed} {x : Fields} → entry_got a n x ≡ None → ◌≡◌ {A = ℕ} 0 1
      differ h = cc

-- ---- the entry by what was read of its line

pub record EntryStands (t : List ℕ) (at k e : ℕ) (f : Fields) : Type 0 where
  pub low : at + 8 ≤ e
  pub high : e < length t
  pub small : f.entity.size ≤ 2147483647
  pub entries : entries_at t at ≡ carried f (label_before t e) (values_behind t e) ∷ entries_in (behind_values (lines_in (drop (e + 1) t)))
  pub rest : List Row
  pub behind : behind_values (lines_in (drop (e + 1) t)) ≡ row_lines (k + 1) rest

module _ (t : List ℕ) (at k e : ℕ) (rs : List Row) (q : lines_in (drop at t) ≡ row_lines k rs) (some : 0 < length (entries_at t at)) (en : e ≡ at + run 10 (drop at t)) (lo : at ≤ e) (hi : e ≤ length t) {y : Option EntryLine} (p : y ≡ entry_of (columns t at e)) where
  stood : RowStands t at k e
  stood = row_stands t at k e en lo hi rs q (rw q at some)

  pub entry_stands : {known : Bool} {n : Signed} {f : Fields} → y ≡ entry_got known n f → EntryStands t at k e f
  entry_stands {f = f} g =
      let s = stood in
      let w : s.row.fields ≡ f = stands_fields s lo p g in
      record {
        low = stands_low s lo;
        high = s.high;
        small = rw (← w) (stands_small s lo);
        entries = rw (← w, stands_behind s lo) (stands_entries s lo);
        rest = s.rest;
        behind = stands_behind s lo;
      }

  pub entry_never : y ≡ None → ⊥
  entry_never g = stands_never stood lo p g
