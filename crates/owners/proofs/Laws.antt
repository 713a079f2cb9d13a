-- The laws of the check of ownership in a file.
use mathlib.Core.Path.{◌≡◌, sym, ap, ◌∙◌}
use mathlib.Core.Bool.{Bool, true, false, not}
use Prim.Native.Nat.{ℕ, ◌+◌, ◌-◌, ◌*◌, ◌/◌, ◌%◌, ◌≤◌, ◌<◌}
use native.Mathlib.Nat.{sub-zero}
use native.Mathlib.Omega.{arith}
use mathlib.Core.List.{List}
use lib.ListN.{get_or}
use lib.Dec.{leb, ltb, eqb}
use borrow.Author.Tests.{le-leb, lt-leb, lt-ltb, le-ltb, eq-eqb, ne_eqb, not-true, not-false, ltb-true, leb-true}
use Rattle.columns.specs.declared.DirectoryNumber.{DirectoryNumber}
use Rattle.columns.specs.declared.ParameterLine.{ParameterLine}
use Rattle.columns.specs.declared.Signed.{Signed}
use Rattle.std.specs.Prelude.{Option, Some, None, unwrap_or}
use Rattle.columns.specs.Columns.{columns, line_at}
use Rattle.columns.specs.Fixed.{field_of, signed_of}
use Rattle.cards.specs.declared.Counts.{Counts}
use Rattle.cards.specs.Rules.{Holds}
use Rattle.cards.specs.Shared.{file_line}
use Rattle.columns.proofs.Tests.{cond_cases}
use Rattle.columns.proofs.Columns.{line-byte, line-columns}
use Rattle.directory.specs.Lines.{pointer, lines, slots}
use Rattle.directory.specs.Reading.{slot_at, start_of}
use Rattle.directory.proofs.Slots.{in_at, slot_signed}
use Rattle.owners.specs.declared.Owned.{Owned}
use Rattle.owners.specs.declared.Owned.TheVariants.{Everyone, Entry, Line}
use Rattle.columns.specs.First.{first_not}
use Rattle.columns.specs.Format.{most_lines}
use Rattle.owners.specs.Owners.{name_is, entry_owns, in_range, line_owned, owners_of, verdict}
use Rattle.owners.specs.InFile.{number_or0, size_or0, name_of, owner_in, from_in, count_in, entry_in, line_in, owners_in, line_of, Small}
use Rattle.columns.proofs.First.{first_ge, first_on, first_here, first_end, call_on, call_here, from_start}

pub number_is : (f : Option ℕ) (r : ℕ) → r ≡ unwrap_or f 0 → r ≡ number_or0 f
unfolding number_or0
number_is None r e = e
number_is (Some n) r e = e

-- with a sign
pub size_bad : (f : Option Signed) → f ≡ None → 0 ≡ size_or0 f
unfolding size_or0
size_bad f e = rw e

pub size_negative : (f : Option Signed) (x : Signed) → f ≡ Some x → x.neg ≡ true → 0 ≡ size_or0 f
unfolding size_or0
size_negative f x e h = rw (e, h)

pub size_some : (f : Option Signed) (x : Signed) → f ≡ Some x → x.neg ≡ false → x.size ≡ size_or0 f
unfolding size_or0
size_some f x e h = rw (e, h)

pub size_of : (f : List ℕ) (k j at r : ℕ) (x : Option Signed) → at ≡ start_of k j → x ≡ signed_of (columns f at (at + 8)) → r ≡ size_or0 x → r ≡ size_or0 (signed_of (slot_at f k j))
size_of f k j at r x s e q = q ∙ ap size_or0 (slot_signed f k j at s x e)

pub name_none : (f : List ℕ) (l : ℕ) → (get_or f (81 * l + 64) 0 ≡ 32 → ⊥) → 0 ≡ name_of (line_at f l)
unfolding name_of
name_none f l h = rw (line-byte f l 64 (omega arith), ne_eqb _ _ h)

pub name_some : (f : List ℕ) (l r : ℕ) (x : Option ℕ) → get_or f (81 * l + 64) 0 ≡ 32 → x ≡ field_of (columns f (81 * l + 65) (81 * l + 72)) → r ≡ number_or0 x → r ≡ name_of (line_at f l)
unfolding name_of
name_some f l r x h e q = rw (line-byte f l 64 (omega arith), eq-eqb _ _ h, line-columns f l 65 72 (omega arith) (omega arith), ← e) q

pub owner_is : (f : List ℕ) (c : Counts) (k l r : ℕ) → l ≡ c.s + c.g + c.d + (k - 1) → r ≡ name_of (line_at f l) → r ≡ owner_in f c k
unfolding owner_in
owner_is f c k l r e h = rw (← e) h

pub from_is : (f : List ℕ) (c : Counts) (i l r : ℕ) → l ≡ c.s + c.g + 2 * i → r ≡ size_or0 (signed_of (slot_at f l 1)) → r ≡ from_in f c i
unfolding from_in slots
from_is f c i l r e h = rw (in_at f (c.s + c.g + 2 * i) pointer, ← e) h

pub count-is : (f : List ℕ) (c : Counts) (i l r : ℕ) → l ≡ c.s + c.g + 2 * i → r ≡ size_or0 (signed_of (slot_at f l 12)) → r ≡ count_in f c i
unfolding count_in slots
count-is f c i l r e h = rw (in_at f (c.s + c.g + 2 * i) lines, ← e) h

pub ruleset fields = (number_is, size_bad, size_negative, size_some, size_of, name_none, name_some, owner_is, from_is, count-is)

-- ---- the first that fails: r is the answer

-- where the test is a line's name
module _ (f : List ℕ) (c : Counts) (m i e r x : ℕ) (inv : first_not (name_is (owner_in f c) m) i (e - i) ≡ r) (h : i < e) (ex : x ≡ owner_in f c i) (b : Bool) (eb : b ≡ not (eqb x m)) where
  pub name_on : b ≡ false → first_not (name_is (owner_in f c) m) (i + 1) (e - (i + 1)) ≡ r
  unfolding name_is
  name_on t = first_on (name_is (owner_in f c) m) i e r inv h (ap (λ j. eqb j m) (sym ex) ∙ not-false _ (sym eb ∙ t))

  pub name_here : b ≡ true → i ≡ r
  unfolding name_is
  name_here t = first_here (name_is (owner_in f c) m) i e r inv h (ap (λ j. eqb j m) (sym ex) ∙ not-true _ (sym eb ∙ t))

pub entries-start : (test : ℕ → Bool) (d n : ℕ) → d ≡ n → first_not test 0 (d / 2 - 0) ≡ first_not test 0 (n / 2)
entries-start test d n e = rw (sub-zero, e)

pub lines_start : (test : ℕ → Bool) (p n : ℕ) → p ≡ n → first_not test 1 (p + 1 - 1) ≡ first_not test 1 n
lines_start test p n e =
    let z : p + 1 - 1 ≡ n = omega arith in
    rw z

pub ruleset firsts = (not-true, not-false, first_end, call_on, call_here, name_on, name_here, from_start, entries-start, lines_start)

-- ---- one entry, one line

module _ (f : List ℕ) (c : Counts) (i from count : ℕ) (ef : from ≡ from_in f c i) (en : count ≡ count_in f c i) where
  pub entry-before : from < 1 → false ≡ entry_in f c i
  unfolding entry_owns
  entry-before h = rw (← ef, lt-leb _ _ h)

  module _ (p x n : ℕ) (ep : p ≡ c.p) (ex : x ≡ from) (ey : n ≡ count) (lo : 1 ≤ from) where
    pub entry_past : p + 1 < x + n → false ≡ entry_in f c i
    unfolding entry_owns
    entry_past h = rw (← ef, ← en, le-leb _ _ lo, lt-leb (from + count) (c.p + 1) (omega arith))

    pub entry-run : (m end e : ℕ) → x + n ≤ p + 1 → m ≡ 2 * i + 1 → end ≡ first_not (name_is (owner_in f c) m) from count → e ≡ end → eqb e (x + n) ≡ entry_in f c i
    unfolding entry_owns
    entry-run m end e h em el ee = rw (← ef, ← en, le-leb _ _ lo, le-leb (from + count) (c.p + 1) (omega arith), ← em, ← el, ee, ex, ey)

-- the numbers are read as they stand in the file, then counted with: x is m, y is from, n is count, j is k
module _ (f : List ℕ) (c : Counts) (k m x d : ℕ) (em : m ≡ owner_in f c k) (ex : x ≡ m) (ed : d ≡ c.d) where
  pub line_even : (x % 2 ≡ 1 → ⊥) → false ≡ line_in f c k
  unfolding line_owned in_range
  line_even h = rw (← em, ← ex, ne_eqb _ _ h)

  module _ (odd : x % 2 ≡ 1) where
    pub line_far : d / 2 ≤ x / 2 → false ≡ line_in f c k
    unfolding line_owned in_range
    line_far h = rw (← em, ← ex, eq-eqb _ _ odd, le-ltb (x / 2) (c.d / 2) (omega arith))

    module _ (from count j y : ℕ) (near : x / 2 < d / 2) (ef : from ≡ from_in f c (x / 2)) (en : count ≡ count_in f c (x / 2)) (ej : j ≡ k) (ey : y ≡ from) where
      pub line_before : j < y → false ≡ line_in f c k
      unfolding line_owned in_range
      line_before h = rw (← em, ← ex, eq-eqb _ _ odd, lt-ltb (x / 2) (c.d / 2) (omega arith), ← ef, lt-leb from k (omega arith))

      pub line-within : (n : ℕ) → y ≤ j → n ≡ count → ltb j (y + n) ≡ line_in f c k
      unfolding line_owned in_range
      line-within n h e = rw (← em, ← ex, eq-eqb _ _ odd, lt-ltb (x / 2) (c.d / 2) (omega arith), ← ef, le-leb from k (omega arith), ← en, ej, ey, e)

pub ruleset tests = (entry-before, entry_past, entry-run, line_even, line_far, line_before, line-within)

module _ (f : List ℕ) (c : Counts) (d i : ℕ) (ed : d ≡ c.d) (ei : i ≡ first_not (entry_in f c) 0 (c.d / 2)) where
  pub says_entry : (m : DirectoryNumber) → i < d / 2 → m.0 ≡ 2 * i + 1 → Entry m ≡ owners_in f c
  unfolding owners_in owners_of
  says_entry m h e = rw (← ei, lt-ltb i (c.d / 2) (omega arith), ← e)

  module _ (k : ParameterLine) (ge : d / 2 ≤ i) (ek : k.0 ≡ first_not (line_in f c) 1 c.p) where
    pub says_line : k.0 ≤ c.p → Line k ≡ owners_in f c
    unfolding owners_in owners_of
    says_line h = rw (← ei, ← ek, le-ltb i (c.d / 2) (omega arith), le-leb _ _ h)

    pub says_all : c.p < k.0 → Everyone ≡ owners_in f c
    unfolding owners_in owners_of
    says_all h = rw (← ei, ← ek, le-ltb i (c.d / 2) (omega arith), lt-leb _ _ h)

pub ruleset answers = (says_entry, says_line, says_all)

-- ---- what callers learn

-- what is found is an entry's or a line's number
data Found (n p : ℕ) : Owned → Type 0 where
  everyone : Found n p Everyone
  entry : {i : ℕ} → i < n → Found n p (Entry (record { 0 = 2 * i + 1 }))
  line : {k : ℕ} → 1 ≤ k → k ≤ p → Found n p (Line (record { 0 = k }))

verdict-found : (n p i k : ℕ) → 1 ≤ k → Found n p (verdict n p i k)
verdict-found n p i k h = cond_cases (Found n p) (ltb i n) (Entry (record { 0 = 2 * i + 1 })) _ (λ e. entry (ltb-true _ _ e))
    (λ e. cond_cases (Found n p) (leb k p) (Line (record { 0 = k })) Everyone (λ e. line h (leb-true _ _ e)) (λ e. everyone))

found_small : (n p : ℕ) (r : Owned) → 2 * n ≤ most_lines → p ≤ most_lines → Found n p r → Small r
found_small n p Everyone h k x = tt
found_small n p (Entry m) h k (entry x) = (omega arith, omega arith)
found_small n p (Line m) h k (line x y) = (x, omega arith)

pub owners_small : (f : List ℕ) (c : Counts) (r : Owned) → Holds f c → r ≡ owners_in f c → Small r
unfolding owners_in owners_of
owners_small f c r h e = rw e (found_small (c.d / 2) c.p _ (omega (arith, h.most)) (omega (arith, h.most))
    (verdict-found (c.d / 2) c.p (first_not (entry_in f c) 0 (c.d / 2)) (first_not (line_in f c) 1 c.p) (first_ge (line_in f c) c.p 1)))

pub answer_small : (f : List ℕ) (c : Counts) (r : Owned) → Holds f c → r ≡ owners_in f c → (r ≡ owners_in f c) × Small r
answer_small f c r h e = (e, owners_small f c r h e)

module _ (c : Counts) (o : Owned) where
  pub place_all : o ≡ Everyone → file_line 0 ≡ file_line (line_of c o)
  place_all e = rw e

  module _ (s g : ℕ) (es : s ≡ c.s) (eg : g ≡ c.g) where
    pub place-entry : (m : DirectoryNumber) (n : ℕ) → o ≡ Entry m → n ≡ m.0 → file_line (s + g + n) ≡ file_line (line_of c o)
    place-entry m n e h = rw (e, es, eg, h)

    pub place-line : (k : ParameterLine) (d n : ℕ) → o ≡ Line k → d ≡ c.d → n ≡ k.0 → file_line (s + g + d + n) ≡ file_line (line_of c o)
    place-line k d n e ed h = rw (e, es, eg, ed, h)

pub ruleset found = (place_all, place-entry, place-line)
