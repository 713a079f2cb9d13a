-- In a canonical file every P line lies in the range of the entry that it names. Assumes nothing.
use mathlib.Core.Path.{◌≡◌, refl, sym, ap, ◌∙◌}
use mathlib.Core.Bool.{Bool, true, false, cond, ◌&&◌}
use mathlib.Core.List.{List, []}
use Prim.Native.Nat.{ℕ, ◌+◌, ◌-◌, ◌*◌, ◌/◌, ◌≤◌, ◌<◌}
use native.Mathlib.Omega.{arith}
use native.Mathlib.Decide.{dec_lt, ℕ_discrete}
use lib.ListN.{length, get_or}
use Rattle.std.specs.Prelude.{Option, Some, None}
use Rattle.columns.specs.declared.Signed.{Signed}
use Rattle.columns.specs.declared.ParameterLine.{ParameterLine}
use Rattle.columns.specs.Fixed.{signed_of}
use Rattle.columns.specs.Refusal.{accepted}
use Rattle.columns.specs.Format.{most_lines}
use Rattle.columns.proofs.Tests.{both_left, both_right}
use Rattle.cards.specs.declared.Counts.{Counts}
use Rattle.cards.specs.Cards.{total, entry_line}
use Rattle.cards.specs.Written.{Bodies, counts_of, file_of}
use Rattle.directory.specs.declared.Fields.{Fields}
use Rattle.directory.specs.Fields.{fields_of, field_count}
use Rattle.directory.specs.Lines.{again, pointer, lines, slot_in, Numbers, numbers, misspelt, numbers_from, positive, size_of, is_same, parameter_line, spelt, entry_at, spelt_entry}
use Rattle.directory.proofs.Within.{same_spelt}
use Rattle.owners.specs.declared.Owned.TheVariants.{Everyone}
use Rattle.owners.specs.InFile.{size_or0, name_of, owner_in, from_in, count_in, owners_in, outcome}
use Rattle.owners.specs.Rules.{Named}
use Rattle.owners.proofs.Round.{owner_written, owns_passes}
use Rattle.sheets.specs.WellFormed.{Each, none, one}
use Rattle.model.specs.Model.{Carried}
use Rattle.model.specs.Fit.{EntryFits}
use Rattle.model.proofs.Sizes.{size_same}
use Rattle.demands_back.proofs.Places.{record_lines, count_of, Placed, Laid, laid_none, laid_one}
use Rattle.demands_back.proofs.Blocks.{record_line_long, owned_name}
use Rattle.demands_back.proofs.Entries.{entry-spelt}

-- ---- what an entry's D lines spell is what ownership goes by

-- pointer and line count of an entry that was spelt
module _ (x : Fields) (from : ParameterLine) (count : ℕ) (a p l : Option Signed) where
  spelt_ranges_by : (y : Fields) (b : Bool) → is_same y.entity a && (positive p && positive l) ≡ b
      → cond b (Some (spelt_entry y (parameter_line (size_of p)) (size_of l))) None ≡ Some (spelt_entry x from count) → (size_or0 p ≡ from.0) × (size_or0 l ≡ count)
  spelt_ranges_by y true e h =
      let both = both_right (is_same y.entity a) (positive p && positive l) e in
      let ef : parameter_line (size_of p) ≡ from = (same_spelt _ _ h).1 in
      let ec : size_of l ≡ count = (same_spelt _ _ h).2 in (
        sym (size_same p (both_left (positive p) (positive l) both)) ∙ ap (λ (k : ParameterLine). k.0) ef,
        sym (size_same l (both_right (positive p) (positive l) both)) ∙ ec,
      )
  spelt_ranges_by y false e h = let z : ◌≡◌ {A = ℕ} 0 1 = cc in absurd (omega arith)

  spelt_ranges : (ns : Numbers) → spelt ns a p l ≡ Some (spelt_entry x from count) → (size_or0 p ≡ from.0) × (size_or0 l ≡ count)
  spelt_ranges (numbers ns) h = spelt_ranges_by (fields_of ns) (is_same (fields_of ns).entity a && (positive p && positive l)) refl h
  spelt_ranges misspelt h = let z : ◌≡◌ {A = ℕ} 0 1 = cc in absurd (omega arith)

entry_ranges : (f : List ℕ) (c : Counts) (i : ℕ) (x : Fields) (from : ParameterLine) (count : ℕ) → entry_at f (entry_line c i) ≡ Some (spelt_entry x from count)
    → (from_in f c i ≡ from.0) × (count_in f c i ≡ count)
unfolding entry_at from_in count_in
entry_ranges f c i x from count e =
    let k = entry_line c i in
    spelt_ranges x from count (signed_of (slot_in f k again)) (signed_of (slot_in f k pointer)) (signed_of (slot_in f k lines)) (numbers_from f k 0 field_count) e

-- ---- every P line has its entry

module _ (S G D P : List (List ℕ)) (bs : Bodies S) (bg : Bodies G) (bd : Bodies D) (bp : Bodies P) (few : total (counts_of S G D P) ≤ most_lines) where
  abbrev F : List ℕ
  F = file_of S G D P

  abbrev C : Counts
  C = counts_of S G D P

  -- entry i: its range, and what its lines name
  record Range (i : ℕ) : Type 0 where
    pub is : i < length D / 2
    pub low : 1 ≤ from_in F C i
    pub inside : from_in F C i + count_in F C i ≤ length P + 1
    pub names : (k : ℕ) → from_in F C i ≤ k → k < from_in F C i + count_in F C i → owner_in F C k ≡ 2 * i + 1

  line-named : (i from : ℕ) (e : Carried) → Placed D P i from e → (k : ℕ) → from ≤ k → k < from + count_of e → owner_in F C k ≡ 2 * i + 1
  line-named i from e at k lo hi =
      let j : from - 1 + (k - from) ≡ k - 1 = omega (arith, at.low) in
      let w : length (get_or (record_lines e) (k - from) []) ≡ 64 = record_line_long e (k - from) (omega arith) in
      owner_written S G D P bs bg bd bp few k (omega (arith, at.low)) (omega (arith, at.inside))
      ∙ ap name_of ((rw j at (at.block (k - from) (omega arith)))) ∙ owned_name (2 * i + 1) (get_or (record_lines e) (k - from) []) w (omega (arith, at.among))

  module _ (list : ℕ) (types : List ℕ) where
    ranges : (i from : ℕ) (e : Carried) → Placed D P i from e → EntryFits list types e → (from_in F C i ≡ from) × (count_in F C i ≡ count_of e)
    ranges i from e at fit = entry_ranges F C i e.fields (parameter_line from) (count_of e) (entry-spelt S G D P bs bg bd bp few list types i from e at fit)

    range_of : (i from : ℕ) (e : Carried) → Placed D P i from e → EntryFits list types e → Range i
    range_of i from e at fit =
        let (a, b) : (from_in F C i ≡ from) × (count_in F C i ≡ count_of e) = ranges i from e at fit in
        record {
          is = omega (arith, at.among);
          low = omega (arith, at.low);
          inside = omega (arith, at.inside);
          names = λ k lo hi. line-named i from e at k (omega arith) (omega arith);
        }

    -- each entry has its range
    range_at : {i from : ℕ} {es : List Carried} → Laid D P i from es → Each (EntryFits list types) es → (j : ℕ) → i ≤ j → j < length D / 2 → Range j
    range_at (laid_none a b) none j lo hi = absurd (omega arith)
    range_at (laid_one {i} {from} {e} at more) (one fit fits) j lo hi = elim (ℕ_discrete j i) [
      | yes q ↦ rw q (range_of i from e at fit)
      | no q ↦ range_at more fits j (omega arith) hi
    ]

    -- each line from the first of these on lies in a range
    range_with : {i from : ℕ} {es : List Carried} → Laid D P i from es → Each (EntryFits list types) es → (k : ℕ) → from ≤ k → k ≤ length P
        → Named (owner_in F C) (from_in F C) (count_in F C) (length D / 2) k
    range_with (laid_none a b) none k lo hi = absurd (omega arith)
    range_with (laid_one {i} {from} {e} at more) (one fit fits) k lo hi = elim (dec_lt k (from + count_of e)) [
      | yes q ↦
          let (a, b) : (from_in F C i ≡ from) × (count_in F C i ≡ count_of e) = ranges i from e at fit in
          record { entry = i; name = line-named i from e at k lo q; has = record { is = omega (arith, at.among); after = omega arith; before = omega arith } }
      | no q ↦ range_with more fits k (omega arith) hi
    ]

    -- the P lines have their entries
    owners_back : (es : List Carried) → Laid D P 0 1 es → Each (EntryFits list types) es → owners_in F C ≡ Everyone
    owners_back es l fits = owns_passes F C (record {
      starts = λ i h. (range_at l fits i (omega arith) h).low;
      stays = λ i h. (range_at l fits i (omega arith) h).inside;
      names = λ i k h. (range_at l fits i (omega arith) h.is).names k h.after h.before;
      lines = λ k lo hi. range_with l fits k lo hi;
    })

    -- and nothing is refused
    pub ownership_back : (es : List Carried) → Laid D P 0 1 es → Each (EntryFits list types) es → outcome C (owners_in F C) ≡ accepted tt
    ownership_back es l fits = rw (owners_back es l fits)
