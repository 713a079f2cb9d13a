-- An entry's P lines are laid, then its D lines: what is owed is that of the entries behind it. Assumes nothing.
use mathlib.Core.Path.{◌≡◌, refl, sym, ap, ◌∙◌}
use mathlib.Core.Bool.{Bool}
use mathlib.Core.List.{List, [], ◌∷◌}
use Prim.Native.Nat.{ℕ, ◌+◌, ◌*◌, ◌^◌, ◌≤◌, ◌<◌}
use native.Mathlib.Omega.{arith}
use lib.ListN.{length, drop}
use Rattle.std.proofs.Common.{Option, Some, None}
use Rattle.columns.specs.declared.Signed.{Signed}
use Rattle.columns.specs.Columns.{columns, joined}
use Rattle.columns.specs.Laid.{laid, length-laid, Wrote}
use Rattle.columns.proofs.Writes.{wrote_length}
use Rattle.values.specs.Value.{Item}
use Rattle.records.specs.Flow.{line_count}
use Rattle.records.proofs.Lines.{lines_hold}
use Rattle.cards.specs.Written.{section}
use Rattle.directory.specs.declared.Fields.{Fields}
use Rattle.directory.specs.Lines.{entry_lines}
use Rattle.sheets.specs.declared.EntryLine.{EntryLine}
use Rattle.sheets.specs.Line.{run, entry_of}
use Rattle.sheets.specs.Sheet.{lines_in}
use Rattle.model.specs.Model.{Carried}
use Rattle.model.specs.Canonical.{parameter_text, block_of, parameter_lines}
use Rattle.file_blocks.specs.Blocks.{behind_values, first_begins, record_text, block_lines, BlockHasRoom}
use Rattle.file_canonical.specs.declared.EntryPlace.{EntryPlace}
use Rattle.file_canonical.specs.Laying.{carried, entries_in, entries_at, number_of, directory_bytes, parameter_bytes, Owing, OwingAt, both_laid, Turn, Turned, values_behind, block_count, label_before, EntryHasRoom, EntryLaid}
use Rattle.file_canonical.proofs.Totals.{block_lines_lem}
use Rattle.file_canonical.proofs.Laying.{owing_less, owing-none}
use Rattle.file_canonical.proofs.Sections.{directory_first, parameter_first, parameter_lines_lem, directory_none, parameter_none, block_length}
use Rattle.file_canonical.proofs.Turns.{rows-begin, EntryStands, entry_stands, entry_never}

-- ---- a block

block_same : (n : ℕ) (f : Fields) (label : List ℕ) (vs : List Item) → block_of n (carried f label vs) ≡ block_lines n f.entity.size vs
unfolding block_of parameter_text
block_same n f label vs = refl

block_count_lem : (n : ℕ) (t : List ℕ) (e : ℕ) (f : Fields) → length (block_of n (carried f (label_before t e) (values_behind t e))) ≡ block_count t e f.entity.size
unfolding parameter_text
block_count_lem n t e f = block_lines_lem n (carried f (label_before t e) (values_behind t e))

-- a text of few lines is short
block_room : (from : ℕ) (x : List ℕ) → from + line_count 64 (length x) ≤ 9999999 → length x ≤ 2 ^ 36
block_room from x h = omega (arith, lines_hold 64 (length x) (omega arith))

-- ---- one entry

module _ (o o' : List ℕ) (k from d p d' : ℕ) (c : Carried) (es : List Carried) where
  abbrev n : ℕ
  n = length (block_of (number_of k) c)

  laid_first : d + length (directory_bytes k from (c ∷ es)) ≤ p → number_of k ≤ 9999999 → from + n ≤ 9999999
      → Wrote (laid o p (joined (section 80 from (block_of (number_of k) c)))) d (joined (section 68 (number_of k) (entry_lines c.fields from n c.label))) o' d'
      → Owing (laid (laid o d (directory_bytes k from (c ∷ es))) p (parameter_bytes k from (c ∷ es))) o' d' (directory_bytes (k + 1) (from + n) es) (p + 81 * n) (parameter_bytes (k + 1) (from + n) es)
  laid_first h m w z =
      let a = joined (section 68 (number_of k) (entry_lines c.fields from n c.label)) in
      let b = joined (section 80 from (block_of (number_of k) c)) in
      let f = directory_first k from c es in
      let g = parameter_first k from c es in
      rw (← block_length from (number_of k) c m w)
      (owing_less a b (directory_bytes (k + 1) (from + n) es) (parameter_bytes (k + 1) (from + n) es) (record { bytes = rw (f, g); apart = rw f at h }) z)

module _ (t : List ℕ) (x : EntryPlace) (k e : ℕ) (f : Fields) (u : Turn t x k) (s : EntryStands t x.at k e f) where
  abbrev here : Carried
  here = carried f (label_before t e) (values_behind t e)

  abbrev later : List Carried
  later = entries_in (behind_values (lines_in (drop (e + 1) t)))

  count-is : length (block_of (number_of k) here) ≡ block_count t e f.entity.size
  count-is = block_count_lem (number_of k) t e f

  lines_are : length (parameter_lines (number_of k) (entries_at t x.at)) ≡ block_count t e f.entity.size + length (parameter_lines (number_of (k + 1)) later)
  lines_are = ap (λ (es : List Carried). length (parameter_lines (number_of k) es)) s.entries ∙ parameter_lines_lem k x.from.0 here later ∙ ap (λ (i : ℕ). i + length (parameter_lines (number_of (k + 1)) later)) count-is

  row_few : x.from.0 + block_count t e f.entity.size ≤ 9999999
  row_few = omega (arith, u.few, lines_are)

  row_number : 2 * k + 2 ≤ 9999999
  row_number = omega (arith, u.numbers, ap length s.entries)

  pub row_fits : EntryHasRoom t x k e f.entity.size
  row_fits = record {
    label = omega (arith, s.low);
    d = omega (arith, u.apart, u.room);
    number = row_number;
    block = record {
      inside = omega (arith, s.high);
      low = omega (arith, u.room);
      small = s.small;
      room = block_room x.from.0 (record_text f.entity.size (values_behind t e)) row_few;
      numbered = omega (arith, row_number);
      few = row_few;
      unbroken = ap first_begins s.behind ∙ rows-begin (k + 1) s.rest;
    };
  }

  module _ (o o' : List ℕ) (y : EntryPlace) (w : EntryLaid o t x k e f o' y) where
    same : entries_at t y.at ≡ later
    same = ap entries_in w.lines

    owed : Owing (both_laid o t x k) o' y.d (directory_bytes (k + 1) (x.from.0 + block_count t e f.entity.size) later) (x.p + 81 * block_count t e f.entity.size) (parameter_bytes (k + 1) (x.from.0 + block_count t e f.entity.size) later)
    owed = rw (s.entries, ← count-is) (laid_first o o' k x.from.0 x.d x.p y.d here later (rw s.entries at u.apart) (omega (arith, row_number)) (rw count-is row_few) (rw (count-is, block_same (number_of k) f (label_before t e) (values_behind t e)) w.wrote))

    owed_there : OwingAt (both_laid o t x k) o' t y (k + 1)
    owed_there = rw (same, w.from, w.p) owed

    pub row_turned : Turned o t x k o' y
    row_turned = record {
      next = record {
        rows = s.rest;
        lines = w.lines ∙ s.behind;
        inside = w.inside;
        apart = owed_there.apart;
        room = rw same (omega (arith, u.room, lines_are, w.p));
        few = rw same (omega (arith, u.few, lines_are, w.from));
        numbers = rw same (omega (arith, u.numbers, ap length s.entries));
      };
      left = ap length s.entries ∙ rw same;
      owing = owed_there;
    }

-- ---- what the functions are asked

abbrev place : ℕ → ℕ → ℕ → ℕ → EntryPlace
place at d p from = record { at = at; d = d; p = p; from = record { 0 = from } }

pub entry-laid : {o o1 o2 : List ℕ} {next lines d number : ℕ} (t : List ℕ) (x : EntryPlace) (k end : ℕ) (f : Fields) → number ≡ number_of k
    → o1 ≡ laid o x.p (joined (section 80 x.from.0 (block_lines number f.entity.size (values_behind t end))))
    → lines ≡ block_count t end f.entity.size
    → lines_in (drop next t) ≡ behind_values (lines_in (drop (end + 1) t))
    → next ≤ length t
    → Wrote o1 x.d (joined (section 68 number (entry_lines f x.from.0 lines (label_before t end)))) o2 d
    → EntryLaid o t x k end f o2 (place next d (x.p + 81 * lines) (x.from.0 + lines))
entry-laid t x k end f n b c l i w = record { wrote = rw (← n, ← c, ← b) w; p = rw c; from = rw c; lines = l; inside = i }

pub count_few : {lines : ℕ} (t : List ℕ) (x : EntryPlace) (k end typ : ℕ) → EntryHasRoom t x k end typ → lines ≡ block_count t end typ → x.from.0 + lines ≤ 9999999
count_few t x k end typ f e = omega (arith, f.block.few)

-- its directory number has room in its columns, and so has the one behind it
module _ {number : ℕ} (t : List ℕ) (x : EntryPlace) (k end typ : ℕ) (f : EntryHasRoom t x k end typ) (e : number ≡ number_of k) where
  pub block_fits : BlockHasRoom t (end + 1) x.p typ number x.from.0
  block_fits = rw e f.block

  pub number-next : number + 1 ≤ 9999999
  number-next = omega (arith, f.number)

pub ruleset entering = (entry-laid, count_few, block_fits, number-next, wrote_length, length-laid)

module _ (t : List ℕ) (x : EntryPlace) (k e : ℕ) (u : Turn t x k) (some : 0 < length (entries_at t x.at)) (en : e ≡ x.at + run 10 (drop x.at t)) (lo : x.at ≤ e) (hi : e ≤ length t) {y : Option EntryLine} (p : y ≡ entry_of (columns t x.at e)) where
  module _ {r : EntryLine} (g : y ≡ Some r) where
    read : EntryStands t x.at k e r.fields
    read = entry_stands t x.at k e u.rows u.lines some en lo hi p g

    pub turn_fits : EntryHasRoom t x k e r.fields.entity.size
    turn_fits = row_fits t x k e r.fields u read

    pub turn_turned : {o o' : List ℕ} {z : EntryPlace} → EntryLaid o t x k e r.fields o' z → Turned o t x k o' z
    turn_turned {o} {o'} {z} w = row_turned t x k e r.fields u read o o' z w

  pub turn_never : {o o' : List ℕ} {z : EntryPlace} → y ≡ None → Turned o t x k o' z
  turn_never g = absurd (entry_never t x.at k e u.rows u.lines some en lo hi p g)

pub turn_inside : (t : List ℕ) (x : EntryPlace) (k : ℕ) → Turn t x k → x.at ≤ length t
turn_inside t x k u = u.inside

pub ruleset turning = (turn_fits, turn_turned, turn_never, turn_inside)

-- ---- all entries: o is the answer

module _ (t : List ℕ) (x : EntryPlace) (k n : ℕ) (c : k + length (entries_at t x.at) ≡ n) where
  pub rows_some : k < n → 0 < length (entries_at t x.at)
  rows_some h = omega arith

  pub rows_less : {o o' : List ℕ} {y : EntryPlace} → Turned o t x k o' y → k + 1 + length (entries_at t y.at) ≡ n
  rows_less w = omega (arith, w.left)

  pub rows_all : {o o' : List ℕ} → OwingAt o o' t x k → n ≤ k → o' ≡ o
  rows_all {o} {o'} w h =
      let e : entries_at t x.at ≡ [] = empty (entries_at t x.at) (omega arith) in
      owing-none (rw (e, directory_none k x.from.0, parameter_none k x.from.0) at w)
    where
      empty : (es : List Carried) → length es ≡ 0 → es ≡ []
      empty [] q = refl
      empty (x ∷ es) q = absurd (omega arith)

pub rows_turn : {o t o' : List ℕ} {x y : EntryPlace} {k : ℕ} → Turned o t x k o' y → Turn t y (k + 1)
rows_turn w = w.next

pub rows-owing : {a o t o' : List ℕ} {x y : EntryPlace} {k : ℕ} → OwingAt a o t x k → Turned o t x k o' y → OwingAt a o' t y (k + 1)
rows-owing v w = record { bytes = v.bytes ∙ w.owing.bytes; apart = w.owing.apart }

pub rows_start : (o t : List ℕ) (x : EntryPlace) → Turn t x 0 → OwingAt (both_laid o t x 0) o t x 0
rows_start o t x u = record { bytes = refl; apart = u.apart }

length_both : (o : List ℕ) (d : ℕ) (ds : List ℕ) (q : ℕ) (ps : List ℕ) → length (laid (laid o d ds) q ps) ≡ length o
length_both o d ds q ps = length-laid (laid o d ds) q ps ∙ length-laid o d ds

pub rows-length : (o : List ℕ) (d : ℕ) (ds : List ℕ) (q : ℕ) (ps : List ℕ) {o' es rs : List ℕ} {e r : ℕ} → Owing (laid (laid o d ds) q ps) o' e es r rs → length o' ≡ length o
rows-length o d ds q ps {o'} {es} {rs} {e} {r} w = sym (sym (length_both o d ds q ps) ∙ ap length w.bytes ∙ length_both o' e es r rs)

pub ruleset rowing = (rows_some, rows_less, rows_all, rows_turn, rows-owing, rows_start, rows-length)
