-- An entry's lines: its label is a part of the file; the values come behind the entry line. Assumes nothing.
use mathlib.Core.Path.{◌≡◌, sym, ap, ◌∙◌}
use mathlib.Core.Bool.{Bool, false}
use mathlib.Core.List.{List, [], ◌∷◌, ◌++◌}
use Prim.Native.Nat.{ℕ, suc, ◌+◌, ◌-◌, ◌*◌, ◌≤◌, ◌<◌}
use native.Mathlib.Omega.{arith}
use lib.ListN.{length, take, drop, length-drop}
use lib.Seq.{length-take-le}
use borrow.Author.Tests.{le-leb, lt-leb}
use Rattle.columns.specs.Columns.{columns, text_of}
use Rattle.columns.specs.Laid.{Wrote, Owes}
use Rattle.columns.proofs.Writes.{then, wrote_none, wrote_same, wrote_length, owes_all, owes_less, owes_none}
use Rattle.values.specs.Value.{Item}
use Rattle.records.specs.Record.{values_at}
use Rattle.records.specs.Reading.{Stands}
use Rattle.directory.specs.declared.Fields.{Fields}
use Rattle.std.specs.Prelude.{Option, Some, None}
use Rattle.directory.specs.declared.Spelt.{Spelt}
use Rattle.directory.specs.Lines.{entry_at, label_at}
use Rattle.directory.specs.Naming.{types_at}
use Rattle.directory.proofs.Slots.{label_columns}
use Rattle.layouts.specs.Known.{known}
use Rattle.sheets.specs.Plain.{sized}
use Rattle.sheets.specs.Sheet.{entry, last, line_of}
use Rattle.read_entities.specs.Marks.{carried_in, marks_begun, marked_from}
use Rattle.print.specs.Bytes.{value_bytes, entity_bytes}
use Rattle.print.specs.Taking.{Unrefused}
use Rattle.print.specs.Rows.{spelt_bytes, row_bytes, rows_bytes, SpeltReads, RowReads, RowsRead}

module _ (f : List ℕ) (k from end : ℕ) (ef : from ≡ 81 * (k + 1) + 56) (ee : end ≡ from + 8) where
  label_is : take (end - from) (drop from f) ≡ label_at f k
  unfolding columns
  label_is =
      let a : end - from ≡ 8 = omega arith in
      let b : 81 * (k + 1) + 64 - (81 * (k + 1) + 56) ≡ 8 = omega arith in
      let q : columns f (81 * (k + 1) + 56) (81 * (k + 1) + 64) ≡ take 8 (drop (81 * (k + 1) + 56) f) = ap (λ (j : ℕ). take j (drop (81 * (k + 1) + 56) f)) b in
      ap (λ (j : ℕ). take j (drop from f)) a ∙ ap (λ (j : ℕ). take 8 (drop j f)) ef ∙ sym q ∙ sym (label_columns f k)

  pub entry-line : {o o' : List ℕ} {at r : ℕ} (list number : ℕ) (x : Fields) {e : Bool} → e ≡ known list x.entity.size x.form.size
      → Wrote o at (line_of (entry e (sized false number) x (take (end - from) (drop from f))) ++ (10 ∷ [])) o' r
      → Wrote o at (line_of (entry (known list x.entity.size x.form.size) (sized false number) x (label_at f k)) ++ (10 ∷ [])) o' r
  entry-line list number x {e} h p =
      wrote_same p (ap (λ (l : List ℕ). line_of (entry e (sized false number) x l) ++ (10 ∷ [])) label_is ∙ ap (λ (b : Bool). line_of (entry b (sized false number) x (label_at f k)) ++ (10 ∷ [])) h)

  pub entry-bound : (at r : ℕ) → 81 * k + 162 ≤ length f → r ≤ at + length (take (end - from) (drop from f)) + 380 → r ≤ at + 388
  entry-bound at r h e =
      let l : length (take (end - from) (drop from f)) ≡ end - from = length-take-le (end - from) (drop from f) (simp length-drop (omega arith)) in
      omega arith

pub entity-of : {o o₁ o₂ : List ℕ} {at r₁ r₂ : ℕ} (list : ℕ) (types : List ℕ) (number : ℕ) (x : Fields) (label : List ℕ) (vs : List Item)
    → Wrote o at (line_of (entry (known list x.entity.size x.form.size) (sized false number) x label) ++ (10 ∷ [])) o₁ r₁
    → Wrote o₁ r₁ (value_bytes (marked_from types (marks_begun list x.entity.size x.form.size) vs)) o₂ r₂
    → Wrote o at (entity_bytes list types number x label vs) o₂ r₂
unfolding entity_bytes
entity-of list types number x label vs p q = then p q

pub ruleset rowed = (entry-line, entry-bound, entity-of, wrote_length)

-- ---- entry i

pub stands_of : (f : List ℕ) (base lines : ℕ) → base + lines * 81 ≤ length f → length f ≤ 16200000 → Stands f base 64 lines
stands_of f base lines h k = record { wide = omega arith; narrow = omega arith; size = k; inside = h }

module _ (list : ℕ) (f : List ℕ) (first n parameters c d i : ℕ) (x : Fields) (pointer count : ℕ) {b m : ℕ} (eb : b ≡ pointer - 1) (em : m ≡ count) where
  pub spelt-none : {o : List ℕ} {at : ℕ} → length f < 81 * (parameters + b) + m * 81 → Wrote o at (spelt_bytes list f first n parameters c d i x pointer count) o at
  unfolding spelt_bytes
  spelt-none h =
      let k : length f < 81 * (parameters + (pointer - 1)) + count * 81 = rw (eb, em) at h in
      simp (lt-leb _ _ k) wrote_none

  pub spelt_some : {o o' : List ℕ} {at r number : ℕ} → number ≡ 2 * i + 1 → 81 * (parameters + b) + m * 81 ≤ length f
      → Wrote o at (entity_bytes list (types_at f first n) number x (label_at f (first + 2 * i)) (carried_in (values_at 64 c d (text_of f (81 * (parameters + b)) 64 m) 0))) o' r
      → Wrote o at (spelt_bytes list f first n parameters c d i x pointer count) o' r
  unfolding spelt_bytes
  spelt_some en h p =
      let k : 81 * (parameters + (pointer - 1)) + count * 81 ≤ length f = rw (eb, em) at h in
      simp (le-leb _ _ k) (rw (en, eb, em) at p)

module _ (list : ℕ) (f : List ℕ) (first n parameters c d i : ℕ) {e : Option Spelt} (ee : e ≡ entry_at f (first + 2 * i)) where
  pub row-none : {o : List ℕ} {at : ℕ} → e ≡ None → Wrote o at (row_bytes list f first n parameters c d i) o at
  unfolding row_bytes
  row-none h = rw (← ee, h) wrote_none

  pub row_some : {o o' : List ℕ} {at r : ℕ} {x : Spelt} → e ≡ Some x
      → Wrote o at (spelt_bytes list f first n parameters c d i x.fields x.pointer.0 x.lines) o' r → Wrote o at (row_bytes list f first n parameters c d i) o' r
  unfolding row_bytes
  row_some h p = rw (← ee, h) p

-- its record is not refused
pub spelt-reads : (f : List ℕ) (parameters c d pointer count : ℕ) {b m : ℕ} → b ≡ pointer - 1 → m ≡ count → SpeltReads f parameters c d pointer count
    → 81 * (parameters + b) + m * 81 ≤ length f → Unrefused (values_at 64 c d (text_of f (81 * (parameters + b)) 64 m) 0)
unfolding SpeltReads
spelt-reads f parameters c d pointer count eb em p h =
    let k : 81 * (parameters + (pointer - 1)) + count * 81 ≤ length f = rw (eb, em) at h in
    rw (eb, em) (p k)

pub row_reads : (f : List ℕ) (first parameters c d i : ℕ) {e : Option Spelt} → e ≡ entry_at f (first + 2 * i) → {x : Spelt} → e ≡ Some x
    → RowReads f first parameters c d i → SpeltReads f parameters c d x.pointer.0 x.lines
unfolding RowReads
row_reads f first parameters c d i ee h p = rw (← ee, h) at p

pub ruleset row = (stands_of, spelt-none, spelt_some, spelt-reads, row-none, row_some, row_reads, wrote_length)

-- ---- all of them

module _ (list : ℕ) (f : List ℕ) (first n parameters c d : ℕ) where
  pub rows_all : (o : List ℕ) (at : ℕ) → Owes o at (rows_bytes list f first n parameters c d 0 n) o at (rows_bytes list f first n parameters c d 0 (n - 0))
  rows_all o at =
      let e : n - 0 ≡ n = omega arith in
      rw e (owes_all o at (rows_bytes list f first n parameters c d 0 n))

  module _ (i : ℕ) {o bs o₁ : List ℕ} {at r₁ : ℕ} (p : Owes o at bs o₁ r₁ (rows_bytes list f first n parameters c d i (n - i))) where
    pub rows_more : {o₂ : List ℕ} {r₂ : ℕ} → i < n → Wrote o₁ r₁ (row_bytes list f first n parameters c d i) o₂ r₂
        → Owes o at bs o₂ r₂ (rows_bytes list f first n parameters c d (i + 1) (n - (i + 1)))
    unfolding rows_bytes
    rows_more h w =
        let e : n - i ≡ suc (n - (i + 1)) = omega arith in
        owes_less (rw e at p) w

    pub rows_end : {o₂ : List ℕ} {r₂ : ℕ} → n ≤ i → Wrote o₁ r₁ (line_of (last n) ++ (10 ∷ [])) o₂ r₂ → Wrote o at (bs ++ (line_of (last n) ++ (10 ∷ []))) o₂ r₂
    unfolding rows_bytes
    rows_end h w =
        let e : n - i ≡ 0 = omega arith in
        then (owes_none (rw e at p)) w

-- each record is read
pub rows-read : (f : List ℕ) (first n parameters c d i : ℕ) → RowsRead f first n parameters c d → i < n → RowReads f first parameters c d i
rows-read f first n parameters c d i p h = p.row i h

pub ruleset rows = (rows_all, rows_more, rows_end, rows-read, wrote_length)
