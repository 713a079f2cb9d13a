-- What an entry that passed is: its lines spell it, and its pointer and line count are those that stand there.
use mathlib.Core.Path.{◌≡◌, refl, sym, ap, ◌∙◌}
use mathlib.Core.Bool.{Bool, true, false, cond, ◌&&◌}
use mathlib.Core.List.{List, ◌∷◌, map}
use Prim.Native.Nat.{ℕ, zero, suc, ◌+◌, ◌*◌, ◌<◌}
use native.Mathlib.Nat.{add-zero, zero-add}
use native.Mathlib.Omega.{arith}
use lib.ListN.{length, get_or, length-map}
use Rattle.columns.specs.declared.ParameterLine.{ParameterLine}
use Rattle.std.specs.Prelude.{Option, Some, None}
use Rattle.columns.specs.declared.Signed.{Signed}
use Rattle.columns.specs.First.{up_from}
use Rattle.columns.specs.Fixed.{signed_of}
use Rattle.columns.proofs.First.{length_up_from}
use Rattle.columns.proofs.Tests.{both_left, both_right}
use Rattle.cards.specs.declared.Counts.{Counts}
use Rattle.cards.specs.Cards.{entries, entry_line}
use Rattle.directory.specs.declared.Fields.{Fields}
use Rattle.directory.specs.declared.Spelt.{Spelt}
use Rattle.directory.specs.Fields.{type_at, fields_of}
use Rattle.directory.specs.Lines.{number, again, pointer, lines, slot_in, number_in, Numbers, numbers, misspelt, with, numbers_from, positive, size_of, is_same, parameter_line, spelt, entry_at, label_at, spelt_entry}
use Rattle.directory.proofs.Within.{same_spelt}
use Rattle.model.specs.Read.{by_entry, entry_in, entries_in, first_entry, listed_type}
use Rattle.std.specs.Prelude.{Ok}
use Rattle.read_passes.specs.Passes.{pass_of}
use Rattle.read_passes.specs.Listed.{entry_of, all_entries, all_types}
use Rattle.read_passes.specs.Walks.{entry_check}
use Rattle.read_passes.proofs.Walks.{each_good, entries_walk}

-- ---- one entry

-- its pointer and its line count, where they stand
pub record Stood (f : List ℕ) (k from count : ℕ) : Type 0 where
  pub from_is : from ≡ size_of (signed_of (slot_in f k pointer))
  pub from_some : positive (signed_of (slot_in f k pointer)) ≡ true
  pub count-is : count ≡ size_of (signed_of (slot_in f k lines))
  pub count_some : positive (signed_of (slot_in f k lines)) ≡ true

module _ (f : List ℕ) (k : ℕ) (x : Fields) (from : ParameterLine) (count : ℕ) (p l a : Option Signed)
    (ep : signed_of (slot_in f k pointer) ≡ p) (el : signed_of (slot_in f k lines) ≡ l) where
  stood_as : (ns : Fields) (b : Bool) → is_same ns.entity a && (positive p && positive l) ≡ b
      → cond b (Some (spelt_entry ns (parameter_line (size_of p)) (size_of l))) None ≡ Some (spelt_entry x from count) → Stood f k from.0 count
  stood_as ns true e h =
      let both = both_right (is_same ns.entity a) (positive p && positive l) e in
      let ef : parameter_line (size_of p) ≡ from = (same_spelt _ _ h).1 in
      let ec : size_of l ≡ count = (same_spelt _ _ h).2 in
      record {
        from_is = ap (λ (y : ParameterLine). y.0) (sym ef) ∙ ap size_of (sym ep);
        from_some = ap positive ep ∙ both_left (positive p) (positive l) both;
        count-is = sym ec ∙ ap size_of (sym el);
        count_some = ap positive el ∙ both_right (positive p) (positive l) both;
      }
  stood_as ns false e h = let z : ◌≡◌ {A = ℕ} 0 1 = cc in absurd (omega arith)

  stood_by : (s : Option Signed) (ns : Numbers) → spelt (with s ns) a p l ≡ Some (spelt_entry x from count) → Stood f k from.0 count
  stood_by (Some n) (numbers ns) h = stood_as (fields_of (n ∷ ns)) (is_same n a && (positive p && positive l)) refl h
  stood_by (Some n) misspelt h = let z : ◌≡◌ {A = ℕ} 0 1 = cc in absurd (omega arith)
  stood_by None ns h = let z : ◌≡◌ {A = ℕ} 0 1 = cc in absurd (omega arith)

pub stood : (f : List ℕ) (k : ℕ) (x : Fields) (from : ParameterLine) (count : ℕ) → entry_at f k ≡ Some (spelt_entry x from count) → Stood f k from.0 count
unfolding entry_at numbers_from number_in
stood f k x from count h =
    stood_by f k x from count (signed_of (slot_in f k pointer)) (signed_of (slot_in f k lines)) (signed_of (slot_in f k again)) refl refl
    (signed_of (slot_in f k (number type_at))) (numbers_from f k 1 11) h

-- what stands at a line spells an entry
pub record IsSpelt (f : List ℕ) (k : ℕ) : Type 0 where
  pub fields : Fields
  pub from : ParameterLine
  pub count : ℕ
  pub is : entry_at f k ≡ Some (spelt_entry fields from count)

-- ---- all of them

module _ (f : List ℕ) (c : Counts) (good : pass_of (entries_in f c) ≡ Ok tt) where
  pub each_spelt : (i : ℕ) → i < entries c → IsSpelt f (entry_line c i)
  unfolding entry_check entry_in
  each_spelt i h = by (entry_at f (entry_line c i)) refl (each_good (entry_check f c) (entries c) 0 i (sym (entries_walk f c) ∙ good) (omega arith) (omega arith))
    where
      by : (r : Option Spelt) → entry_at f (entry_line c i) ≡ r → pass_of (by_entry (label_at f (entry_line c i)) (first_entry c + 2 * i) r) ≡ Ok tt → IsSpelt f (entry_line c i)
      by (Some s) e g = record { fields = s.fields; from = s.pointer; count = s.lines; is = e }
      by None e g = let z : ◌≡◌ {A = ℕ} 0 1 = cc in absurd (omega arith)

-- one of numbers one after another, taken twice
pub get_d_up : {A : Type 0} (g : A → ℕ) (h : ℕ → A) (n i j : ℕ) → j < n → get_or (map g (map h (up_from i n))) j 0 ≡ g (h (i + j))
unfolding up_from
get_d_up g h zero i j l = absurd (omega arith)
get_d_up g h (suc n) i zero l = ap (λ (m : ℕ). g (h m)) (sym (add-zero i))
get_d_up g h (suc n) i (suc j) l =
    let e : i + 1 + j ≡ i + suc j = omega arith in
    get_d_up g h n (i + 1) j (omega arith) ∙ ap (λ (m : ℕ). g (h m)) e

pub types-length : (f : List ℕ) (c : Counts) → length (all_types f c) ≡ entries c
types-length f c = length-map (all_entries f c) listed_type ∙ length-map (up_from 0 (entries c)) (entry_of f c) ∙ length_up_from (entries c) 0

pub types-at : (f : List ℕ) (c : Counts) (i : ℕ) → i < entries c → get_or (all_types f c) i 0 ≡ listed_type (entry_of f c i)
types-at f c i h = get_d_up listed_type (entry_of f c) (entries c) 0 i h ∙ ap (λ (m : ℕ). listed_type (entry_of f c m)) (zero-add i)
