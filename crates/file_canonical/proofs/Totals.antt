-- The count of a sheet's lines is that of its canonical file's lines, if a file may have so many. Assumes nothing.
use mathlib.Core.Path.{◌≡◌, refl, sym, ap, ◌∙◌}
use mathlib.Core.Bool.{Bool, true, false}
use mathlib.Core.List.{List, [], ◌∷◌, ◌++◌, map}
use Prim.Native.Nat.{ℕ, zero, suc, ◌+◌, ◌*◌, ◌%◌, ◌≤◌, ◌<◌}
use native.Mathlib.Nat.{zero-add, add-zero, add_assoc, mod-lt}
use native.Mathlib.Omega.{arith}
use lib.ListN.{length, replicate, length-append, length-map}
use borrow.Author.Tests.{le-leb}
use Rattle.std.proofs.Common.{None, Some}
use Rattle.columns.specs.Format.{most_lines}
use Rattle.values.specs.Value.{Item, default, whole, spelled}
use Rattle.records.specs.Flow.{firm, gap, piece, none as no_more, flow, line_count, in_lines}
use Rattle.records.proofs.Round.{length-piece, opening-length}
use Rattle.records.proofs.Lines.{length-lines}
use Rattle.records.specs.Global.{canonical_opening}
use Rattle.cards.specs.declared.Counts.{Counts}
use Rattle.cards.specs.Cards.{counts, total}
use Rattle.cards.specs.Written.{counts_of}
use Rattle.directory.specs.Lines.{entry_lines}
use Rattle.sheets.specs.Sheet.{Line, Row, Sheet, start_lines, global_lines, value_lines, row_lines, lines_of}
use Rattle.model.specs.Model.{Carried, Model, value_in, carried_of, model_of}
use Rattle.model.specs.Canonical.{start_lines as start_texts, filled, global_text, global_lines as global_texts, parameter_text, owned, block_of, directory_lines, parameter_lines, line_total}
use Rattle.file_canonical.specs.declared.Tally.{Tally}
use Rattle.file_canonical.specs.Counting.{behind, skipped, tally, begun, with_start, with_global, with_entry, with_value, counts_in, total_in, tallied, lines_of_sheet}
use Rattle.file_canonical.proofs.Counted.{within_few, within-many}

-- ---- where a flow ends

-- its first value, and the others
flow-end : (w p : ℕ) (v : Item) (vs : List Item) → p + length (flow w p (v ∷ vs)) ≡ behind w p v + length (flow w (behind w p v) vs)
unfolding flow behind
flow-end w p v vs =
    let e : length (piece w p v (no_more vs)) ≡ length (piece w p v false) = length-piece w p v (no_more vs) ∙ sym (length-piece w p v false) in
    rw (e, length-append (piece w p v (no_more vs)) (flow w (p + length (piece w p v false)) vs), e) (sym (add_assoc p (length (piece w p v false)) (length (flow w (p + length (piece w p v false)) vs))))

-- a default is its delimiter
gap-none : (w p : ℕ) → 0 < w → gap w p 1 ≡ 0
unfolding gap
gap-none w p h = simp (le-leb (p % w + 1) w (omega (arith, mod-lt p h)))

behind_default : (w p : ℕ) → 0 < w → behind w p default ≡ p + 1
unfolding behind firm spelled
behind_default w p h = omega (arith, length-piece w p default false, gap-none w p h)

flow_defaults : (w : ℕ) → 0 < w → (k p : ℕ) (vs : List Item) → p + length (flow w p (replicate k default ++ vs)) ≡ (p + k) + length (flow w (p + k) vs)
flow_defaults w h zero p vs = rw (add-zero p)
flow_defaults w h (suc k) p vs =
    let e : p + 1 + k ≡ p + suc k = omega arith in
    flow-end w p default (replicate k default ++ vs) ∙ rw (behind_default w p h) (flow_defaults w h k (p + 1) vs ∙ rw e)

-- ---- section by section

starts-tallied : (x : Tally) (ts : List (List ℕ)) (ls : List Line) → tallied x (start_lines ts ls) ≡ tallied (tally (x.s + length ts) x.global x.field x.d x.p x.at) ls
unfolding start_lines
starts-tallied x [] ls = rw (add-zero x.s)
starts-tallied x (t ∷ ts) ls =
    let e : x.s + 1 + length ts ≡ x.s + suc (length ts) = omega arith in
    starts-tallied (with_start x) ts ls ∙ rw e

-- the last field that is given
abbrev last_given : ℕ → List (ℕ × Item) → ℕ
last_given f [] = f
last_given f (g ∷ gs) = last_given g.0 gs

fields_end : (f p : ℕ) (g : ℕ × Item) (gs : List (ℕ × Item)) → behind 72 (p + skipped f g.0) g.1 + length (flow 72 (behind 72 (p + skipped f g.0) g.1) (filled (suc g.0) gs)) ≡ p + length (flow 72 p (filled (suc f) (g ∷ gs)))
unfolding filled
fields_end f p g gs =
    sym (flow_defaults 72 (omega arith) (skipped f g.0) p (g.1 ∷ filled (suc g.0) gs) ∙ flow-end 72 (p + skipped f g.0) g.1 (filled (suc g.0) gs))

globals-tallied : (x : Tally) (gs : List (ℕ × Item)) (ls : List Line)
    → tallied x (global_lines gs ls) ≡ tallied (tally x.s (x.global + length (flow 72 x.global (filled (suc x.field) gs))) (last_given x.field gs) x.d x.p x.at) ls
unfolding global_lines filled flow
globals-tallied x [] ls = rw (add-zero x.global)
globals-tallied x (g ∷ gs) ls =
    let e = fields_end x.field x.global g gs in
    globals-tallied (with_global x g.0 (behind 72 (x.global + skipped x.field g.0) g.1)) gs ls
    ∙ ap (λ (k : ℕ). tallied (tally x.s k (last_given g.0 gs) x.d x.p x.at) ls) e

values_tallied : (x : Tally) (vs : List (Bool × Item)) (ls : List Line)
    → tallied x (value_lines vs ls) ≡ tallied (with_value x (x.at + length (flow 64 x.at (map value_in vs)))) ls
unfolding value_lines flow
values_tallied x [] ls = rw (add-zero x.at)
values_tallied x (v ∷ vs) ls =
    values_tallied (with_value x (behind 64 x.at v.1)) vs ls
    ∙ ap (λ (k : ℕ). tallied (with_value x k) ls) (sym (flow-end 64 x.at v.1 (map value_in vs)))

-- the record of a row
record_end : (r : Row) → behind 64 0 (whole false r.fields.entity.size) + length (flow 64 (behind 64 0 (whole false r.fields.entity.size)) (map value_in r.values)) ≡ length (parameter_text (carried_of r))
unfolding parameter_text
record_end r = sym (flow-end 64 0 (whole false r.fields.entity.size) (map value_in r.values)) ∙ omega arith

pub block_lines_lem : (n : ℕ) (e : Carried) → length (block_of n e) ≡ line_count 64 (length (parameter_text e))
unfolding block_of
block_lines_lem n e = length-map (in_lines 64 (parameter_text e)) (owned n) ∙ length-lines 64 (parameter_text e)

-- an entry has two D lines
pub entry-two : (e : Carried) (from count : ℕ) → length (entry_lines e.fields from count e.label) ≡ 2
unfolding entry_lines
entry-two e from count = refl

pub directory_two : (n from : ℕ) (es : List Carried) → length (directory_lines n from es) ≡ 2 * length es
unfolding directory_lines
directory_two n from [] = refl
directory_two n from (e ∷ es) =
    let d = entry_lines e.fields from (length (block_of n e)) e.label in
    let r = directory_lines (n + 2) (from + length (block_of n e)) es in
    omega (arith, length-append d r, entry-two e from (length (block_of n e)), directory_two (n + 2) (from + length (block_of n e)) es)

-- what the rows come to, whatever their numbers are
rows-tallied : (rs : List Row) (x : Tally) (k n : ℕ)
    → counts_in (tallied x (row_lines k rs)) ≡ counts x.s (line_count 72 x.global) (x.d + 2 * length rs) (x.p + line_count 64 x.at + length (parameter_lines n (map carried_of rs))) 1
unfolding row_lines counts_in parameter_lines
rows-tallied [] x k n = rw (add-zero x.d, add-zero (x.p + line_count 64 x.at))
rows-tallied (r ∷ rs) x k n =
    let y = with_entry x (line_count 64 x.at) (behind 64 0 (whole false r.fields.entity.size)) in
    let t = length (parameter_text (carried_of r)) in
    let es = map carried_of rs in
    let p : x.p + line_count 64 x.at + line_count 64 t + length (parameter_lines (n + 2) es) ≡ x.p + line_count 64 x.at + length (block_of n (carried_of r) ++ parameter_lines (n + 2) es) =
    omega (arith, length-append (block_of n (carried_of r)) (parameter_lines (n + 2) es), block_lines_lem n (carried_of r)) in
    let d : x.d + 2 + 2 * length rs ≡ x.d + 2 * suc (length rs) = omega arith in
    ap counts_in (values_tallied y r.values (row_lines (k + 1) rs))
    ∙ ap (λ (q : ℕ). counts_in (tallied (with_value y q) (row_lines (k + 1) rs))) (record_end r)
    ∙ rows-tallied rs (with_value y t) (k + 1) (n + 2)
    ∙ ap (λ (q : ℕ). counts x.s (line_count 72 x.global) (x.d + 2 + 2 * length rs) q 1) p
    ∙ ap (λ (q : ℕ). counts x.s (line_count 72 x.global) q (x.p + line_count 64 x.at + length (block_of n (carried_of r) ++ parameter_lines (n + 2) es)) 1) d

-- ---- the sheet

-- the counts of its canonical file
abbrev pub counts_for : Model → Counts
counts_for m = counts_of (start_texts m) (global_texts m) (directory_lines 1 1 m.entries) (parameter_lines 1 m.entries)

opening-end : (gs : List (ℕ × Item)) → 8 + length (flow 72 8 (filled 3 gs)) ≡ length (global_text gs)
unfolding filled flow global_text
opening-end [] = sym (opening-length true)
opening-end (g ∷ gs) = sym (length-append (canonical_opening false) (flow 72 8 (filled 3 (g ∷ gs))) ∙ ap (λ (k : ℕ). k + length (flow 72 8 (filled 3 (g ∷ gs)))) (opening-length false))

pub global_count : (m : Model) → length (global_texts m) ≡ line_count 72 (length (global_text m.globals))
unfolding global_texts
global_count m = length-lines 72 (global_text m.globals)

pub start-count : (m : Model) → length (start_texts m) ≡ length m.starts
unfolding start_texts
start-count m = length-map m.starts _

lines_none : line_count 64 0 ≡ 0
unfolding line_count
lines_none = refl

model_of_lem : (s : Sheet) → ((model_of s).starts ≡ s.starts) × ((model_of s).globals ≡ s.globals) × ((model_of s).entries ≡ map carried_of s.rows)
unfolding model_of
model_of_lem s = (refl, refl, refl)

module _ (s : Sheet) where
  pub sheet-counts : counts_in (tallied begun (lines_of s)) ≡ counts_for (model_of s)
  unfolding lines_of
  sheet-counts =
      let es = map carried_of s.rows in
      let g = 8 + length (flow 72 8 (filled 3 s.globals)) in
      let m = model_of_lem s in
      let a : length s.starts ≡ length (start_texts (model_of s)) = sym (start-count (model_of s) ∙ ap length m.0) in
      let b : line_count 72 g ≡ length (global_texts (model_of s)) = ap (line_count 72) (opening-end s.globals) ∙ sym (global_count (model_of s) ∙ ap (λ (x : List (ℕ × Item)). line_count 72 (length (global_text x))) m.1) in
      let d : 2 * length s.rows ≡ length (directory_lines 1 1 (model_of s).entries) = rw m.2 (omega (arith, directory_two 1 1 es, length-map s.rows carried_of)) in
      let p : 0 + line_count 64 0 + length (parameter_lines 1 es) ≡ length (parameter_lines 1 (model_of s).entries) = rw m.2 (omega (arith, lines_none)) in
      ap counts_in (starts-tallied begun s.starts (global_lines s.globals (row_lines 0 s.rows)) ∙ globals-tallied (tally (0 + length s.starts) 8 2 0 0 0) s.globals (row_lines 0 s.rows))
      ∙ rows-tallied s.rows (tally (0 + length s.starts) g (last_given 2 s.globals) 0 0 0) 0 1
      ∙ rw (b, p) (gather (length s.starts) (2 * length s.rows) a d)
    where
      gather : (u v : ℕ) → u ≡ length (start_texts (model_of s)) → v ≡ length (directory_lines 1 1 (model_of s).entries) → counts (0 + u) (length (global_texts (model_of s))) (0 + v) (length (parameter_lines 1 (model_of s).entries)) 1 ≡ counts_for (model_of s)
      gather u v e f = rw (e, f, zero-add (length (start_texts (model_of s))), zero-add (length (directory_lines 1 1 (model_of s).entries)))

  total-is : total_in (tallied begun (lines_of s)) ≡ line_total (model_of s)
  unfolding total_in line_total
  total-is = ap total sheet-counts

  -- a file may have its lines: these are their counts
  pub sheet_few : line_total (model_of s) ≤ most_lines → lines_of_sheet (lines_of s) ≡ Some (counts_for (model_of s))
  unfolding lines_of_sheet
  sheet_few h = within_few (tallied begun (lines_of s)) total-is h ∙ ap Some sheet-counts

  -- they are too many
  pub sheet-many : most_lines < line_total (model_of s) → lines_of_sheet (lines_of s) ≡ None
  unfolding lines_of_sheet
  sheet-many h = within-many (tallied begun (lines_of s)) total-is h
