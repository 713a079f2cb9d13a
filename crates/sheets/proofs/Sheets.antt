-- A sheet's text is read as that sheet, and what is read of a text is a sheet with that text: sheets have one spelling. Assumes nothing.
use mathlib.Core.Path.{◌≡◌, refl, sym, ap, ◌∙◌}
use mathlib.Core.Bool.{Bool, true, false}
use mathlib.Core.List.{List, [], ◌∷◌}
use Prim.Native.Nat.{ℕ, zero, suc, ◌+◌, ◌-◌, ◌*◌, ◌≤◌, ◌<◌}
use native.Mathlib.Omega.{arith}
use native.Mathlib.Decide.{ℕ_discrete}
use lib.ListN.{length, get_or}
use Rattle.std.proofs.Common.{Err, Ok}
use Rattle.columns.specs.declared.Fault.TheVariants.{SheetLine as WrongSheet}
use Rattle.columns.specs.declared.Signed.{Signed}
use Rattle.columns.specs.declared.SheetLine.{SheetLine}
use Rattle.columns.specs.Refusal.{accepted, refused}
use Rattle.values.specs.Value.{Item}
use Rattle.directory.specs.declared.Fields.{Fields}
use Rattle.directory.specs.Fields.{nought, in_order}
use Rattle.sheets.specs.Plain.{sized}
use Rattle.sheets.specs.Sheet.{Line, is_start, pieces_of, said_by_all, lines_in, Row, Sheet, start_lines, global_lines, value_lines, row_lines, lines_of, sheet_text, parts, parts_of, sheet_of}
use Rattle.sheets.specs.Order.{begin, go_lines, verdict_of, outcome, read_sheet, SheetVerdict}
use Rattle.sheets.specs.WellFormed.{Each, none as no-each, one as an-each, Proper, Numbered, Held, Filled, RowSpelt, Spelt, WellFormed}
use Rattle.sheets.proofs.Round.{Fits, eight, plain, AllFit, nil, cons}
use Rattle.sheets.proofs.Says.{own, w_start, w_global, w_entry, w_value, w_last, AllWell, no_lines, a-line, text_round, text_back}
use Rattle.sheets.proofs.Taken.{sheet-on}
use Rattle.sheets.proofs.Takes.{all_said, order_back}

-- ---- the sheet of a sheet's lines

parts_values : (vs : List (Bool × Item)) (rest : List Line) (rs : List Row) → parts_of rest ≡ parts [] [] [] rs → parts_of (value_lines vs rest) ≡ parts [] [] vs rs
unfolding parts_of value_lines
parts_values [] rest rs e = e
parts_values (v ∷ vs) rest rs e = rw (parts_values vs rest rs e)

parts-rows : (rs : List Row) (k : ℕ) → parts_of (row_lines k rs) ≡ parts [] [] [] rs
unfolding parts_of row_lines
parts-rows [] k = refl
parts-rows (r ∷ rs) k = rw (parts_values r.values (row_lines (k + 1) rs) rs (parts-rows rs (k + 1)))

parts-globals : (gs : List (ℕ × Item)) (rs : List Row) → parts_of (global_lines gs (row_lines 0 rs)) ≡ parts [] gs [] rs
unfolding parts_of global_lines
parts-globals [] rs = parts-rows rs 0
parts-globals (g ∷ gs) rs = rw (parts-globals gs rs)

parts-starts : (ss : List (List ℕ)) (gs : List (ℕ × Item)) (rs : List Row) → parts_of (start_lines ss (global_lines gs (row_lines 0 rs))) ≡ parts ss gs [] rs
unfolding parts_of start_lines
parts-starts [] gs rs = parts-globals gs rs
parts-starts (s ∷ ss) gs rs = rw (parts-starts ss gs rs)

pub sheet_again : (s : Sheet) → sheet_of (lines_of s) ≡ s
unfolding sheet_of lines_of
sheet_again s = rw (parts-starts s.starts s.globals s.rows)

-- ---- the numbers of an entry

-- proper numbers, the one that three others follow being a status, are those of an entry line
all_fit_lem : (left : ℕ) {xs : List Signed} → Each Proper xs → length xs ≡ left → (4 ≤ left → Fits 3 (get_or xs (left - 4) nought)) → AllFit left xs
all_fit_lem zero no-each e g = nil
all_fit_lem zero (an-each p ps) e g = absurd (omega arith)
all_fit_lem (suc left) no-each e g = absurd (omega arith)
all_fit_lem (suc left) (an-each {x} {xs} p ps) e g = cons (pick (ℕ_discrete left 3)) (all_fit_lem left ps (omega arith) later)
  where
    later : 4 ≤ left → Fits 3 (get_or xs (left - 4) nought)
    later h =
        let k : suc left - 4 ≡ suc (left - 4) = omega arith in
        rw k at (g (omega arith))

    pick : Dec (left ≡ 3) → Fits left x
    pick (yes q) =
        let k : suc left - 4 ≡ 0 = omega arith in
        rw q (rw k at (g (omega arith)))
    pick (no q) = plain q p

fit_proper : {left : ℕ} {x : Signed} → Fits left x → Proper x
fit_proper (eight n h) = record { small = omega arith; minus = λ e. let z : ◌≡◌ {A = ℕ} 0 1 = cc in absurd (omega arith) }
fit_proper (plain h p) = p

each_proper : {left : ℕ} {xs : List Signed} → AllFit left xs → Each Proper xs
each_proper nil = no-each
each_proper (cons f a) = an-each (fit_proper f) (each_proper a)

fit_status : {left : ℕ} {xs : List Signed} → AllFit left xs → (j : ℕ) → left ≡ j + 4 → Fits 3 (get_or xs j nought)
fit_status nil j h = absurd (omega arith)
fit_status (cons {left} {x} {xs} f a) zero h =
    let e : left ≡ 3 = omega arith in
    rw e at f
fit_status (cons f a) (suc j) h = fit_status a j (omega arith)

status_digits : {left : ℕ} {x : Signed} → Fits left x → left ≡ 3 → (x.size < 100000000) × (x.neg ≡ false)
status_digits (eight n h) e = (h, refl)
status_digits (plain h p) e = absurd (h e)

status_fits : (x : Signed) → x.size < 100000000 → x.neg ≡ false → Fits 3 x
status_fits x h z = rw (own x z) at (eight x.size h)

fields_fit_lem : {x : Fields} → Numbered x → AllFit 12 (in_order x)
fields_fit_lem {x} n = all_fit_lem 12 n.proper refl (λ _. status_fits x.status n.digits n.unsigned)

fields_numbered : {x : Fields} → AllFit 12 (in_order x) → Numbered x
fields_numbered {x} a =
    let d = status_digits (fit_status a 8 refl) refl in
    record { proper = each_proper a; digits = d.0; unsigned = d.1 }

-- ---- a sheet that can be spelt has lines that can, and the other way round

number_fits : (n : ℕ) → n ≤ 2147483647 → Fits 12 (sized false n)
number_fits n h =
    let d : ◌≡◌ {A = ℕ} 12 3 → ⊥ = omega arith in
    plain d (fit_proper_size n h)
  where
    never : ◌≡◌ {A = Bool} false true → ⊥
    never e = let z : ◌≡◌ {A = ℕ} 0 1 = cc in omega arith

    fit_proper_size : (n : ℕ) → n ≤ 2147483647 → Proper (sized false n)
    fit_proper_size n h = record { small = h; minus = λ e _. never e }

well_values : {vs : List (Bool × Item)} {rest : List Line} → Each (λ (v : Bool × Item). Held v.1) vs → AllWell rest → AllWell (value_lines vs rest)
unfolding value_lines
well_values no-each a = a
well_values (an-each h hs) a = a-line (w_value h) (well_values hs a)

well_rows : {rs : List Row} (k : ℕ) → Each RowSpelt rs → 2 * (k + length rs) ≤ 2147483648 → AllWell (row_lines k rs)
unfolding row_lines
well_rows k no-each h =
    let few : k ≤ 2147483647 = omega arith in
    a-line (w_last few) no_lines
well_rows k (an-each s ss) h =
    a-line (w_entry refl (cons (number_fits (2 * k + 1) (omega arith)) (fields_fit_lem s.numbers)) s.label) (well_values s.values (well_rows (k + 1) ss (omega arith)))

well_globals : {gs : List (ℕ × Item)} {rest : List Line} → Each Filled gs → AllWell rest → AllWell (global_lines gs rest)
unfolding global_lines
well_globals no-each a = a
well_globals (an-each f fs) a = a-line (w_global f) (well_globals fs a)

well_starts : {ts : List (List ℕ)} {rest : List Line} → Each (λ (t : List ℕ). is_start t ≡ true) ts → AllWell rest → AllWell (start_lines ts rest)
unfolding start_lines
well_starts no-each a = a
well_starts (an-each h hs) a = a-line (w_start h) (well_starts hs a)

all_well : {s : Sheet} → Spelt s → AllWell (lines_of s)
unfolding lines_of
all_well p = well_starts p.starts (well_globals p.globals (well_rows 0 p.rows (omega (arith, p.few))))

values_held : (vs : List (Bool × Item)) (rest : List Line) → AllWell (value_lines vs rest) → Each (λ (v : Bool × Item). Held v.1) vs × AllWell rest
unfolding value_lines
values_held [] rest a = (no-each, a)
values_held (v ∷ vs) rest (a-line (w_value h) a) =
    let b = values_held vs rest a in
    (an-each h b.0, b.1)

rows-spelt : (rs : List Row) (k : ℕ) → AllWell (row_lines k rs) → 2 * k ≤ 2147483648 → Each RowSpelt rs × (2 * (k + length rs) ≤ 2147483648)
unfolding row_lines
rows-spelt [] k a h = (no-each, omega arith)
rows-spelt (r ∷ rs) k (a-line (w_entry z (cons f x) l) a) h =
    let v = values_held r.values (row_lines (k + 1) rs) a in
    let b = rows-spelt rs (k + 1) v.1 (omega (arith, (fit_proper f).small)) in
    (an-each (record { numbers = fields_numbered x; label = l; values = v.0 }) b.0, omega (arith, b.1))

globals-filled : (gs : List (ℕ × Item)) (rest : List Line) → AllWell (global_lines gs rest) → Each Filled gs × AllWell rest
unfolding global_lines
globals-filled [] rest a = (no-each, a)
globals-filled (g ∷ gs) rest (a-line (w_global f) a) =
    let b = globals-filled gs rest a in
    (an-each f b.0, b.1)

starts-plain : (ts : List (List ℕ)) (rest : List Line) → AllWell (start_lines ts rest) → Each (λ (t : List ℕ). is_start t ≡ true) ts × AllWell rest
unfolding start_lines
starts-plain [] rest a = (no-each, a)
starts-plain (t ∷ ts) rest (a-line (w_start h) a) =
    let b = starts-plain ts rest a in
    (an-each h b.0, b.1)

all_spelt : (s : Sheet) → AllWell (lines_of s) → Spelt s
unfolding lines_of
all_spelt s a =
    let b = starts-plain s.starts (global_lines s.globals (row_lines 0 s.rows)) a in
    let c = globals-filled s.globals (row_lines 0 s.rows) b.1 in
    let d = rows-spelt s.rows 0 c.1 (omega arith) in
    record { starts = b.0; globals = c.0; rows = d.0; few = omega (arith, d.1) }

-- ---- there and back

-- the lines of a sheet's text say the sheet's lines
pub lines-written : {s : Sheet} → Spelt s → lines_in (sheet_text s) ≡ lines_of s
unfolding lines_in sheet_text
lines-written p = text_round (all_well p)

pub verdict-written : (s : Sheet) → WellFormed s → verdict_of (sheet_text s) ≡ Ok (length s.rows)
unfolding verdict_of
verdict-written s w = ap (go_lines begin) (lines-written w.spelt) ∙ sheet-on s w.ordered

-- a well-formed sheet, printed and read, is that sheet
pub read-written : (s : Sheet) → WellFormed s → read_sheet (sheet_text s) ≡ accepted s
unfolding read_sheet
read-written s w = rw (verdict-written s w, lines-written w.spelt, sheet_again s)

-- what is known of a text with a good verdict
pub record Written (t : List ℕ) (n : ℕ) (s : Sheet) : Type 0 where
  pub text : sheet_text s ≡ t
  pub formed : WellFormed s
  pub lines : lines_in t ≡ lines_of s
  pub count : n ≡ length s.rows

pub good_written : (t : List ℕ) (n : ℕ) → verdict_of t ≡ Ok n → Written t n (sheet_of (lines_in t))
unfolding verdict_of lines_in sheet_text
good_written t n h =
    let o = order_back (said_by_all (pieces_of t)) n h in
    let b = text_back t (all_said (said_by_all (pieces_of t)) begin n h) in
    record {
      text = rw o.0 b.1;
      formed = record { ordered = o.1; spelt = all_spelt (sheet_of (said_by_all (pieces_of t))) (rw o.0 b.0) };
      lines = sym o.0;
      count = o.2;
    }

-- what is accepted is well formed, and the text is its text
pub written_read : (t : List ℕ) (s : Sheet) → read_sheet t ≡ accepted s → Written t (length s.rows) s
unfolding read_sheet
written_read t s h = pick (verdict_of t) refl h
  where
    pick : (v : SheetVerdict) → verdict_of t ≡ v → outcome (sheet_of (lines_in t)) v ≡ accepted s → Written t (length s.rows) s
    pick (Ok n) e h =
        let g : sheet_of (lines_in t) ≡ s = cc in
        let w = good_written t n e in
        rw g at (rw w.count at w)
    pick (Err n) e h = absurd (let z : ◌≡◌ {A = ℕ} 0 1 = cc in omega arith)

-- the outcome by the verdict
pub read_good : (t : List ℕ) (n : ℕ) → verdict_of t ≡ Ok n → read_sheet t ≡ accepted (sheet_of (lines_in t))
unfolding read_sheet
read_good t n e = rw e

pub read-wrong : (t : List ℕ) (w : SheetLine) → verdict_of t ≡ Err w → read_sheet t ≡ refused WrongSheet w.0
unfolding read_sheet
read-wrong t w e = rw e

-- two sheets with one text are one
pub one-sheet : (s u : Sheet) → WellFormed s → WellFormed u → sheet_text s ≡ sheet_text u → s ≡ u
one-sheet s u p q e =
    let a : read_sheet (sheet_text s) ≡ accepted s = read-written s p in
    let b : read_sheet (sheet_text s) ≡ accepted u = rw e (read-written u q) in
    cc
