-- The entries that reading lists have the bytes that the code writes. Assumes nothing.
use mathlib.Core.Path.{◌≡◌, refl, sym, ap, ap₂}
use mathlib.Core.List.{List, [], ◌∷◌, ◌++◌, map}
use Prim.Native.Nat.{ℕ, zero, suc, ◌+◌, ◌-◌, ◌*◌, ◌≤◌}
use lib.ListN.{length}
use borrow.Author.Tests.{le-leb}
use Rattle.columns.specs.Columns.{text_of}
use Rattle.columns.specs.First.{up_from}
use Rattle.columns.specs.Refusal.{accepted, each_at}
use Rattle.columns.proofs.Stops.{Accepts, done, next, all_accepted}
use Rattle.values.specs.Value.{Item}
use Rattle.records.specs.Record.{values_at}
use Rattle.directory.specs.Naming.{types_at}
use Rattle.model.specs.Read.{Listed, entry_in, two, carried}
use Rattle.model.specs.Model.{Carried}
use Rattle.model.proofs.ReadApart.{entry_apart}
use Rattle.read_entities.specs.Marks.{carried_in}
use Rattle.print.specs.Bytes.{entity_bytes}
use Rattle.print.specs.Rows.{spelt_bytes, row_bytes, rows_bytes}
use Rattle.print.specs.Whole.{entries_bytes}

module _ (list : ℕ) (f : List ℕ) (first n parameters c d : ℕ) where
  -- what an entry carries
  abbrev pub values_of : Listed → List Item
  values_of e = carried_in (values_at 64 c d (text_of f (81 * (parameters + (e.pointer - 1))) 64 e.lines) 0)

  -- an entry that is listed, its P lines in the file
  pub row_listed : (i place : ℕ) (e : Listed) → entry_in f place (first + 2 * i) ≡ accepted e → 81 * (parameters + (e.pointer - 1)) + e.lines * 81 ≤ length f
      → row_bytes list f first n parameters c d i ≡ entity_bytes list (types_at f first n) (2 * i + 1) e.fields e.label (values_of e)
  unfolding row_bytes spelt_bytes
  row_listed i place e h room =
      let a = entry_apart f place (first + 2 * i) e h in
      let k : 81 * (parameters + (a.from.0 - 1)) + a.count * 81 ≤ length f = rw a.is at room in
      rw a.spelt (simp (le-leb _ _ k) (ap (λ (y : Listed). entity_bytes list (types_at f first n) (2 * i + 1) y.fields y.label (values_of y)) (sym a.is)))

  abbrev pub carried_as : Listed → Carried
  carried_as e = carried e (values_of e)

  -- the P lines of each stand in the file
  abbrev pub Roomy : List Listed → Type 0
  Roomy [] = Unit {0}
  Roomy (e ∷ es) = (81 * (parameters + (e.pointer - 1)) + e.lines * 81 ≤ length f) × Roomy es

  abbrev pub line_of_entry : ℕ → ℕ
  line_of_entry i = first + 2 * i

  -- all entries that are listed
  all_listed : (left i place : ℕ) (es : List Listed) → Accepts two (entry_in f) place (map line_of_entry (up_from i left)) es → Roomy es
      → rows_bytes list f first n parameters c d i left ≡ entries_bytes list (types_at f first n) i (map carried_as es)
  unfolding up_from rows_bytes entries_bytes
  all_listed zero i place [] done room = refl
  all_listed zero i place (e ∷ es) x room = elim x [ ]
  all_listed (suc left) i place [] x room = elim x [ ]
  all_listed (suc left) i place (e ∷ es) (next h s) room =
      ap₂ (λ (x y : List ℕ). x ++ y) (row_listed i place e h room.0) (all_listed left (i + 1) (place + 2) es s room.1)

  pub rows-listed : (left i place : ℕ) (es : List Listed) → each_at two (entry_in f) place (map line_of_entry (up_from i left)) ≡ accepted es → Roomy es
      → rows_bytes list f first n parameters c d i left ≡ entries_bytes list (types_at f first n) i (map carried_as es)
  rows-listed left i place es h room = all_listed left i place es (all_accepted two (entry_in f) place (map line_of_entry (up_from i left)) es h) room
