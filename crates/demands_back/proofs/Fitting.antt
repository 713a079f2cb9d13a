-- An entry that fits can be written: its numbers and its label take their columns, and its record holds its type number and its values. Assumes nothing.
use mathlib.Core.Path.{◌≡◌, refl}
use mathlib.Core.Bool.{true, false}
use mathlib.Core.List.{List, ◌∷◌}
use Prim.Native.Nat.{ℕ, ◌≤◌}
use native.Mathlib.Omega.{arith}
use lib.ListN.{length}
use lib.Dec.{eqb}
use borrow.Author.Tests.{eqb-true}
use Rattle.columns.specs.Columns.{printable}
use Rattle.columns.specs.Format.{most_lines}
use Rattle.columns.proofs.Tests.{both}
use Rattle.values.specs.Value.{Item, whole, Fine, fine_whole}
use Rattle.directory.specs.declared.Fields.{Fields}
use Rattle.directory.specs.Fields.{in_order}
use Rattle.directory.specs.Reading.{Writable}
use Rattle.sheets.specs.Line.{is_label}
use Rattle.sheets.specs.WellFormed.{Each, one, Proper, Numbered, Held}
use Rattle.sheets.proofs.Each.{normals}
use Rattle.model.specs.Model.{Carried, type_of}
use Rattle.model.specs.Fit.{EntryFits}

-- ---- its D lines

label_parts : (t : List ℕ) → is_label t ≡ true → (length t ≡ 8) × (printable t ≡ true)
unfolding is_label
label_parts t h =
    let p = both (eqb (length t) 8) (printable t) h in
    (eqb-true (length t) 8 p.0, p.1)

-- ---- its record

-- its type number and its values
abbrev pub values_of : Carried → List Item
values_of e = whole false (type_of e.fields) ∷ e.values

type_fine : (x : Fields) → Numbered x → Fine (whole false (type_of x))
type_fine x h = pick h.proper
  where
    pick : Each Proper (in_order x) → Fine (whole false (type_of x))
    pick (one p ps) = fine_whole false (type_of x) p.small (λ z. refl)

-- ---- an entry that fits

module _ (list : ℕ) (types : List ℕ) (e : Carried) (h : EntryFits list types e) where
  -- with a P line's number and a count of lines that a file may have
  pub writable : (from count : ℕ) → 1 ≤ from → from ≤ most_lines → 1 ≤ count → count ≤ most_lines → Writable e.fields from count e.label
  writable from count a b c d = record {
    ranges = h.ranges;
    normal = normals h.numbers.proper;
    status_plain = h.numbers.unsigned;
    from_low = a;
    from_high = omega arith;
    count_low = c;
    count_high = omega arith;
    label = (label_parts e.label h.label).0;
  }

  pub print_label : printable e.label ≡ true
  print_label = (label_parts e.label h.label).1

  pub values_held : Each Held (values_of e)
  values_held = one (record { fine = type_fine e.fields h.numbers; printed = tt }) h.values
