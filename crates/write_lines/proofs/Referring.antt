-- What the references of an entry ask, one by one and all together (10).
use mathlib.Core.Path.{◌≡◌}
use mathlib.Core.Bool.{Bool, true, false}
use mathlib.Core.List.{List}
use Prim.Native.Nat.{ℕ}
use Rattle.std.proofs.Common.{Ok, Err}
use Rattle.columns.specs.Refusal.{refusal_at}
use Rattle.columns.specs.declared.Fault.TheVariants.{Reference}
use Rattle.columns.specs.declared.Signed.{Signed}
use Rattle.references.specs.References.{fits, class_at}
use Rattle.directory.specs.declared.Fields.{Fields}
use Rattle.directory.specs.declared.Entry.{Entry}
use Rattle.directory.specs.declared.Wanted.{Wanted}
use Rattle.directory.specs.Fields.{entry_of}
use Rattle.directory.specs.Rules.{all_fit, references, reference_rule}
use Rattle.sheets.specs.declared.Said.{Said}
use Rattle.sheets.specs.declared.Said.TheVariants.{Entry as EntryLine}
use Rattle.sheets.specs.Order.{sheet_line}
use Rattle.write_lines.specs.Heads.{said_references}
use Rattle.write_lines.specs.Classes.{sheet_types, some_at, Tabled}
use Rattle.write_lines.proofs.Tables.{number_some}
use Rattle.write_lines.proofs.Others.{references-other}

-- ---- one reference

-- where no type is asked for
pub asks_some : (classes : List ℕ) (n : ℕ) (t : List ℕ) (w : Wanted) → Tabled classes n t → w.want ≡ 0 → (class : ℕ) (r : Bool) → class ≡ some_at n w.number.0 → r ≡ fits w.want class
    → r ≡ fits w.want (class_at (sheet_types t) w.number.0)
asks_some classes n t w tab z class r ec er = rw (er, z, ec) (number_some classes n t w.number.0 tab)

-- ---- one entry

module _ (types : List ℕ) (place : ℕ) (x : Said) (known : Bool) (n : Signed) (fields : Fields) (e : x ≡ EntryLine known n fields) (y : Entry) (ey : y ≡ entry_of fields) (b : Bool)
    (eb : b ≡ all_fit types (references y)) where
  pub refer_good : b ≡ true → Ok tt ≡ said_references types place x
  unfolding reference_rule
  refer_good h = rw (e, ← ey, ← eb, h)

  pub refer-wrong : b ≡ false → Err (refusal_at Reference (sheet_line place)) ≡ said_references types place x
  unfolding reference_rule
  refer-wrong h = rw (e, ← ey, ← eb, h)

pub ruleset refers = (refer_good, refer-wrong, references-other)
