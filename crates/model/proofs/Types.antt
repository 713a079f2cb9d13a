-- The types read off the D lines are those of the entries that reading lists. Assumes nothing.
use mathlib.Core.Path.{◌≡◌, refl, sym, ap, ◌∙◌}
use mathlib.Core.Bool.{Bool, true, false, cond, ◌&&◌}
use mathlib.Core.List.{List, ◌∷◌, map, map-map}
use Prim.Native.Nat.{ℕ, suc, ◌+◌}
use native.Mathlib.Omega.{arith}
use Rattle.std.specs.Prelude.{Option, Some, None}
use Rattle.columns.specs.declared.Signed.{Signed}
use Rattle.columns.specs.declared.ParameterLine.{ParameterLine}
use Rattle.columns.specs.First.{up_from}
use Rattle.columns.specs.Fixed.{signed_of}
use Rattle.columns.specs.Refusal.{accepted}
use Rattle.columns.proofs.Stops.{each_alike}
use Rattle.cards.specs.declared.Counts.{Counts}
use Rattle.cards.specs.Cards.{first_d, entries, entry_line}
use Rattle.directory.specs.declared.Fields.{Fields}
use Rattle.directory.specs.Fields.{type_at, fields_of}
use Rattle.directory.specs.Lines.{number, again, pointer, lines, slot_in, number_in, Numbers, numbers, misspelt, with, numbers_from, is_same, positive, parameter_line, size_of, spelt, entry_at, spelt_entry}
use Rattle.directory.specs.Naming.{type_on, types_at}
use Rattle.directory.proofs.Within.{same_spelt}
use Rattle.model.specs.Model.{type_of}
use Rattle.model.specs.Read.{Listed, entry_in, two, first_entry, entries_in, listed_type}
use Rattle.model.proofs.ReadApart.{entry_apart}

-- ---- one entry

first_number : (f : List ℕ) (k n more : ℕ) → numbers_from f k n (suc more) ≡ with (number_in f k n) (numbers_from f k (n + 1) more)
unfolding numbers_from
first_number f k n more = refl

type_number : (f : List ℕ) (k : ℕ) → number_in f k 0 ≡ signed_of (slot_in f k (number type_at))
unfolding number_in
type_number f k = refl

entry_first : (f : List ℕ) (k : ℕ)
    → entry_at f k ≡ spelt (with (signed_of (slot_in f k (number type_at))) (numbers_from f k 1 11)) (signed_of (slot_in f k again)) (signed_of (slot_in f k pointer)) (signed_of (slot_in f k lines))
unfolding entry_at
entry_first f k =
    ap (λ (ns : Numbers). spelt ns (signed_of (slot_in f k again)) (signed_of (slot_in f k pointer)) (signed_of (slot_in f k lines)))
    (first_number f k 0 11 ∙ ap (λ (r : Option Signed). with r (numbers_from f k 1 11)) (type_number f k))

spelt_first : (t : Option Signed) (ns : Numbers) (a p l : Option Signed) (x : Fields) (from : ParameterLine) (count : ℕ) → spelt (with t ns) a p l ≡ Some (spelt_entry x from count) → type_of x ≡ size_of t
spelt_first None ns a p l x from count h = let z : ◌≡◌ {A = ℕ} 0 1 = cc in absurd (omega arith)
spelt_first (Some n) misspelt a p l x from count h = let z : ◌≡◌ {A = ℕ} 0 1 = cc in absurd (omega arith)
spelt_first (Some n) (numbers ns) a p l x from count h = by (is_same n a && (positive p && positive l)) h
  where
    by : (b : Bool) → cond b (Some (spelt_entry (fields_of (n ∷ ns)) (parameter_line (size_of p)) (size_of l))) None ≡ Some (spelt_entry x from count) → type_of x ≡ n.size
    by true e = ap type_of (sym (same_spelt _ _ e).0)
    by false e = let z : ◌≡◌ {A = ℕ} 0 1 = cc in absurd (omega arith)

-- an entry that is accepted has the type that stands on its first D line
pub listed_type_lem : (f : List ℕ) (place k : ℕ) (y : Listed) → entry_in f place k ≡ accepted y → listed_type y ≡ type_on f k
unfolding type_on
listed_type_lem f place k y h =
    let a = entry_apart f place k y h in
    ap listed_type a.is
    ∙ spelt_first (signed_of (slot_in f k (number type_at))) (numbers_from f k 1 11) (signed_of (slot_in f k again)) (signed_of (slot_in f k pointer)) (signed_of (slot_in f k lines)) a.fields a.from a.count (sym (entry_first f k) ∙ a.spelt)

-- ---- all of them

-- the types of the entries that reading lists
pub types-listed : (f : List ℕ) (c : Counts) (es : List Listed) → entries_in f c ≡ accepted es → map listed_type es ≡ types_at f (first_d c) (entries c)
unfolding entries_in types_at
types-listed f c es h =
    each_alike two (entry_in f) listed_type (type_on f) (listed_type_lem f) (first_entry c) (map (entry_line c) (up_from 0 (entries c))) es h
    ∙ map-map (type_on f) (entry_line c) (up_from 0 (entries c))
