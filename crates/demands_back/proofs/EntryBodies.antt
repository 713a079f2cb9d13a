-- The D and P lines of entries: 72 columns of bytes that a line may hold, where directory numbers and P line numbers fit their columns.
-- Assumes nothing.
use mathlib.Core.Path.{◌≡◌, refl, ◌∙◌}
use mathlib.Core.Bool.{true}
use mathlib.Core.List.{List, [], ◌∷◌, map}
use Prim.Native.Nat.{ℕ, ◌+◌, ◌*◌, ◌^◌, ◌≤◌, ◌<◌}
use native.Mathlib.Omega.{arith}
use lib.ListN.{length, get_or, take, drop, length-append}
use lib.Dec.{eqb}
use Rattle.columns.specs.declared.Signed.{Signed}
use Rattle.columns.specs.Columns.{printable, joined}
use Rattle.columns.specs.Decimal.{dec, signed_dec, padded, to_right}
use Rattle.columns.specs.Format.{most_lines}
use Rattle.columns.proofs.Tests.{cond_cases}
use Rattle.columns.proofs.Looks.{print_both, print_cons, print_replicate}
use Rattle.columns.proofs.Decimals.{dec-digits, print_digits, print_signed, print_right}
use Rattle.records.proofs.Round.{print_flow}
use Rattle.directory.specs.declared.Fields.{Fields}
use Rattle.directory.specs.Fields.{nought, in_order}
use Rattle.directory.specs.Lines.{Slot, number, again, pointer, lines, reserved, label, slots, written, slot_of, entry_lines}
use Rattle.directory.specs.Reading.{first_line, second_line, Writable}
use Rattle.directory.proofs.Puts.{entry-lines}
use Rattle.directory.proofs.Round.{first_length, second_length}
use Rattle.cards.specs.Written.{Body, Bodies, none as no-bodies, one as a_Body}
use Rattle.cards.proofs.Round.{all_append}
use Rattle.sheets.specs.WellFormed.{Each, none, one}
use Rattle.model.specs.Model.{Carried}
use Rattle.model.specs.Canonical.{parameter_text, owned, block_of, directory_lines, parameter_lines}
use Rattle.model.specs.Fit.{EntryFits}
use Rattle.demands_back.proofs.Cuts.{Wide, lines_wide, all_map}
use Rattle.demands_back.proofs.Held.{prints}
use Rattle.demands_back.proofs.Fitting.{values_of, writable, print_label, values_held}
use Rattle.demands_back.proofs.Places.{count_block, count_some}
use Rattle.demands_back.proofs.Blocks.{length-number}

-- ---- the slots of D lines

print_written : (n : ℕ) (x : Signed) → printable (written n x) ≡ true
print_written n x =
    cond_cases (λ (l : List ℕ). printable l ≡ true) (eqb n 8) (to_right 48 8 (dec x.size)) (to_right 32 8 (signed_dec x))
    (λ _. print_right 48 8 (dec x.size) (omega arith) (omega arith) (print_digits (dec-digits x.size)))
    (λ _. print_right 32 8 (signed_dec x) (omega arith) (omega arith) (print_signed x))

print_padded : (w n : ℕ) → printable (padded w (dec n)) ≡ true
print_padded w n = print_right 32 w (dec n) (omega arith) (omega arith) (print_digits (dec-digits n))

module _ (x : Fields) (from count : ℕ) (name : List ℕ) (good : printable name ≡ true) where
  print_slot : (s : Slot) → printable (slot_of x from count name s) ≡ true
  print_slot (number n) = print_written n (get_or (in_order x) n nought)
  print_slot again = print_written 0 x.entity
  print_slot pointer = print_padded 8 from
  print_slot lines = print_padded 8 count
  print_slot reserved = print_replicate 8 32 (omega arith) (omega arith)
  print_slot label = good

  print_slots : (ss : List Slot) → printable (joined (map (slot_of x from count name) ss)) ≡ true
  unfolding printable joined
  print_slots [] = refl
  print_slots (s ∷ ss) = print_both (slot_of x from count name s) (joined (map (slot_of x from count name) ss)) (print_slot s) (print_slots ss)

module _ (x : Fields) (from count : ℕ) (name : List ℕ) (w : Writable x from count name) (good : printable name ≡ true) where
  first_good : printable (first_line x from) ≡ true
  unfolding first_line printable
  first_good = print_slots x from 0 [] refl (take 9 slots)

  second_good : printable (second_line x count name) ≡ true
  unfolding second_line
  second_good = print_slots x 0 count name good (drop 9 slots)

  entry_bodies : Bodies (entry_lines x from count name)
  entry_bodies = rw (entry-lines x from count name)
      (a_Body (record { wide = first_length x from count name w; good = first_good })
      (a_Body (record { wide = second_length x from count name w; good = second_good }) no-bodies))

-- ---- the P lines of an entry

owned_body : (n : ℕ) → n < 10 ^ 7 → (t : List ℕ) → Wide 64 t → Body (owned n t)
owned_body n k t h = record {
  wide = length-append t (32 ∷ padded 7 (dec n)) ∙ omega (arith, h.wide, length-number n k);
  good = print_both t (32 ∷ padded 7 (dec n)) h.good (print_cons 32 (padded 7 (dec n)) (omega arith) (omega arith) (print_padded 7 n));
}

-- ---- all entries

module _ (list : ℕ) (types : List ℕ) where
  print_parameters : (e : Carried) → EntryFits list types e → printable (parameter_text e) ≡ true
  unfolding parameter_text
  print_parameters e h = print_flow 64 0 (values_of e) (prints (values_held list types e h))

  block_bodies : (n : ℕ) (e : Carried) → EntryFits list types e → n < 10 ^ 7 → Bodies (block_of n e)
  unfolding block_of
  block_bodies n e h k = all_map (owned n) (owned_body n k) (lines_wide 64 (parameter_text e) (print_parameters e h))

  pub parameter_bodies : (n : ℕ) {es : List Carried} → Each (EntryFits list types) es → n + 2 * length es ≤ 10 ^ 7 → Bodies (parameter_lines n es)
  unfolding parameter_lines
  parameter_bodies n none k = no-bodies
  parameter_bodies n (one {x} {xs} p ps) k = all_append (block_bodies n x p (omega arith)) (parameter_bodies (n + 2) ps (omega arith))

  pub directory_bodies : (n from : ℕ) {es : List Carried} → Each (EntryFits list types) es → 1 ≤ from → from + length (parameter_lines n es) ≤ most_lines
      → Bodies (directory_lines n from es)
  unfolding directory_lines parameter_lines
  directory_bodies n from none lo hi = no-bodies
  directory_bodies n from (one {x} {xs} p ps) lo hi =
      let count = length (block_of n x) in
      let a : from + count + length (parameter_lines (n + 2) xs) ≤ most_lines = omega (arith, length-append (block_of n x) (parameter_lines (n + 2) xs)) in
      all_append
      (entry_bodies x.fields from count x.label (writable list types x p from count lo (omega arith) (omega (arith, count_block n x, count_some x)) (omega arith)) (print_label list types x p))
      (directory_bodies (n + 2) (from + count) ps (omega arith) a)
