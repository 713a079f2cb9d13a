-- The P lines of an entry in a canonical file: 64 columns of its record, a blank, its directory number. Assumes nothing.
use mathlib.Core.Path.{◌≡◌, refl, sym, ap, ◌∙◌}
use mathlib.Core.List.{List, [], ◌∷◌, ◌++◌}
use Prim.Native.Nat.{ℕ, ◌-◌, ◌*◌, ◌^◌, ◌<◌}
use native.Mathlib.Omega.{arith}
use lib.ListN.{length, get_or, replicate}
use lib.Seq.{get_or_at}
use Rattle.columns.specs.Columns.{columns, joined}
use Rattle.columns.specs.Decimal.{dec, padded}
use Rattle.columns.proofs.Columns.{columns_skip, columns-part, columns_all}
use Rattle.columns.proofs.Decimals.{length_dec_le, length_right}
use Rattle.columns.proofs.Round.{field-padded}
use Rattle.records.specs.Flow.{line_count}
use Rattle.records.proofs.Lines.{join_lines}
use Rattle.owners.specs.InFile.{number_or0, name_of}
use Rattle.model.specs.Model.{Carried}
use Rattle.model.specs.Canonical.{parameter_text, owned}
use Rattle.demands_back.proofs.Cuts.{line_wide}
use Rattle.demands_back.proofs.Places.{record_lines, count_of}

-- each has 64 columns of it
pub record_line_long : (e : Carried) (j : ℕ) → j < count_of e → length (get_or (record_lines e) j []) ≡ 64
unfolding count_of record_lines
record_line_long e j h = line_wide 64 (parameter_text e) j h

-- the record and the blanks that fill its last line
pub record_joined : (e : Carried) → joined (record_lines e) ≡ parameter_text e ++ replicate (line_count 64 (length (parameter_text e)) * 64 - length (parameter_text e)) 32
unfolding record_lines
record_joined e = join_lines 64 (omega arith) (parameter_text e)

-- ---- a line of 64 columns of a record and a directory number

-- the number takes seven columns
pub length-number : (n : ℕ) → n < 10 ^ 7 → length (padded 7 (dec n)) ≡ 7
length-number n h = length_right 32 7 (dec n) (length_dec_le 6 n h)

module _ (n : ℕ) (t : List ℕ) (wide : length t ≡ 64) where
  pub owned_record : columns (owned n t) 0 64 ≡ t
  owned_record = columns-part t (32 ∷ padded 7 (dec n)) 64 wide

  owned-number : n < 10 ^ 7 → columns (owned n t) 65 72 ≡ padded 7 (dec n)
  owned-number h =
      columns_skip t (32 ∷ padded 7 (dec n)) 64 65 72 wide (omega arith) ∙ columns_skip (32 ∷ []) (padded 7 (dec n)) 1 1 8 refl (omega arith)
      ∙ ap (columns (padded 7 (dec n)) 0) (sym (length-number n h)) ∙ columns_all (padded 7 (dec n))

  -- it names that number
  pub owned_name : n < 10 ^ 7 → name_of (owned n t) ≡ n
  unfolding name_of number_or0
  owned_name h = rw (get_or_at t 32 (padded 7 (dec n)) 0 64 wide, owned-number h, field-padded 7 n)
