-- What is read of any record is fine: so it can be written, and is read again. Assumes nothing.
use mathlib.Core.Path.{◌≡◌, refl}
use mathlib.Core.Bool.{Bool, true, false, cond}
use mathlib.Core.List.{List, [], ◌∷◌, ◌++◌}
use Prim.Native.Nat.{ℕ, zero, suc, ◌+◌, ◌-◌, ◌%◌, ◌≤◌}
use native.Mathlib.Omega.{arith}
use lib.ListN.{length, drop, take, length-take, length-drop}
use lib.Dec.{leb}
use borrow.Author.Tests.{leb-true}
use Rattle.std.specs.Prelude.{Ok, Err}
use Rattle.columns.specs.Columns.{printable}
use Rattle.columns.proofs.Looks.{print_take, print_drop}
use Rattle.columns.specs.declared.Fault.TheVariants.{Spelling}
use Rattle.values.specs.declared.Number.{Number}
use Rattle.values.specs.declared.Number.TheVariants.{Whole as WholeOf, Real as RealOf, Beyond, Bad}
use Rattle.values.specs.declared.Value.{Value}
use Rattle.values.specs.declared.Value.TheVariants.{Default, Whole, Real, Text}
use Rattle.values.specs.declared.Head.{Head}
use Rattle.values.specs.declared.Head.TheVariants.{Count, Plain}
use Rattle.values.specs.Head.{head_of}
use Rattle.values.specs.Value.{Item, item_of, is_default, Fine, fine_default, fine_whole, fine_real, fine_text, Printed}
use Rattle.std.specs.Prelude.{Some}
use Rattle.values.specs.Strict.{strict_of}
use Rattle.values.specs.Writing.{Inside}
use Rattle.values.proofs.Sizes.{sizes}
use Rattle.values.proofs.OneSpelling.{sound}
use Rattle.values.proofs.Backs.{strict_inside}
use Rattle.values.proofs.Canon.{Canon, FineHead, head_fine}
use Rattle.records.specs.declared.Next.{Next}
use Rattle.records.specs.declared.Next.TheVariants.{Delimiter, Other}
use Rattle.records.specs.Record.{Got, found_at, refused_at, next_at, found, plain, headed, by_next, value_at, Values, values, wrong, more, after, values_from, values_at, trim, trimmed}
use Rattle.records.specs.Reading.{Writable}
use Rattle.records.specs.Flow.{flow, Fines, fine_one, fine_more, Prints}
use Rattle.records.proofs.Round.{round_behind}

abbrev pub FineGot : List ℕ → Got → Type 0
FineGot t (Ok r) = Fine (item_of t r.value)
FineGot t (Err r) = Unit {0}

abbrev FineValues : Values → Type 0
FineValues (values vs end) = Fines vs
FineValues (wrong n s at) = Unit {0}

module _ (w c d : ℕ) (t : List ℕ) where
  fine_found : (v : Value) (s : ℕ) (n : Next) → Fine (item_of t v) → FineGot t (found v s n)
  fine_found v s (Delimiter at last) f = f
  fine_found v s (Other at) f = tt

  fine_plain : (s end : ℕ) (n : Next) (k : Number) → Canon k → FineGot t (plain s end n k)
  fine_plain s end n (WholeOf neg size) k = fine_found (Whole neg size) s n (fine_whole neg size k.0 k.1)
  fine_plain s end n (RealOf neg m eneg e double) k = fine_found (Real neg m eneg e double) s n (fine_real k double)
  fine_plain s end (Delimiter at last) Beyond k = tt
  fine_plain s end (Other at) Beyond k = tt
  fine_plain s end n Bad k = tt

  fine_headed : (s : ℕ) (h : Head) → FineHead h → FineGot t (headed c d t s h)
  fine_headed s (Plain k) f = fine_plain s (s + k.len) (next_at c d t (s + k.len)) k.number f
  fine_headed s (Count count len) f = pick (leb (s + len + count) (length t)) refl
    where
      pick : (b : Bool) → leb (s + len + count) (length t) ≡ b → FineGot t (cond b (found (Text (s + len) count) s (next_at c d t (s + len + count))) (refused_at Spelling s (length t)))
      pick true e =
          let l : length (take count (drop (s + len) t)) ≡ count = simp (length-take, length-drop) (omega (arith, leb-true (s + len + count) (length t) e)) in
          fine_found (Text (s + len) count) s (next_at c d t (s + len + count)) (fine_text (take count (drop (s + len) t)) (rw l f.0) (rw l f.1))
      pick false e = tt

  fine_next : (n : Next) → FineGot t (by_next w c d t n)
  fine_next (Delimiter at last) = fine_default
  fine_next (Other s) = fine_headed s (head_of (take (w - s % w) (drop s t))) (head_fine (take (w - s % w) (drop s t)))

  -- a value that is found is fine
  pub fine_value : (p : ℕ) → FineGot t (value_at w c d t p)
  unfolding value_at
  fine_value p = fine_next (next_at c d t p)

  add : {v : Item} {vs : List Item} → Fine v → Fines vs → Fines (v ∷ vs)
  add f (fine_one g) = fine_more f (fine_one g)
  add f (fine_more g h) = fine_more f (fine_more g h)

  fine_add : (v : Item) (vs : Values) → Fine v → FineValues vs → FineValues (more v vs)
  fine_add v (values vs end) f g = add f g
  fine_add v (wrong n s at) f g = tt

  fine_after : (rest : ℕ → Values) (g : Got) → ((next : ℕ) → FineValues (rest next)) → FineGot t g → FineValues (after t rest g)
  fine_after rest (Ok x) r f = by x.last
    where
      by : (last : Bool) → FineValues (after t rest (found_at x.value x.start x.next last))
      by true = fine_one f
      by false = fine_add (item_of t x.value) (rest x.next) f (r x.next)
  fine_after rest (Err x) r f = tt

  fine_from : (k p : ℕ) → FineValues (values_from k w c d t p)
  unfolding values_from
  fine_from zero p = tt
  fine_from (suc k) p = fine_after (values_from k w c d t) (value_at w c d t p) (fine_from k) (fine_value p)

  pub fine_values : (p : ℕ) {vs : List Item} {end : ℕ} → values_at w c d t p ≡ values vs end → Fines vs
  unfolding values_at
  fine_values p e = rw e at (fine_from (suc (length t)) p)

  -- what is read of any record, written in its canonical form behind any text, is read again
  pub again : (p : ℕ) {vs : List Item} {end : ℕ} → values_at w c d t p ≡ values vs end → (w' : ℕ) → 25 ≤ w' → (a r : List ℕ)
      → values_at w' 44 59 (a ++ (flow w' (length a) vs ++ r)) (length a) ≡ values vs (length a + length (flow w' (length a) vs))
  again p e w' big a r = round_behind w' big a (fine_values p e) r

-- ---- so it can be written

-- a value that is fine, whose characters stand in the text, can be written
fine_writable : (t : List ℕ) (v : Value) → Fine (item_of t v) → Inside (length t) v → Writable (length t) v
fine_writable t Default f i = tt
fine_writable t (Whole neg size) (fine_whole _ _ h z) i = h
fine_writable t (Real neg m eneg e double) (fine_real k _) i = sizes k
fine_writable t (Text start count) (fine_text _ lo hi) i =
    let k : length (take count (drop start t)) ≡ count = simp (length-take, length-drop) (omega arith) in
    (i, omega arith, omega arith)

-- and what is read back of a text is such a value
pub strict_writable : (t : List ℕ) (v : Value) → strict_of t ≡ Some v → Writable (length t) v
strict_writable t v e = fine_writable t v (sound t e).fine (rw e at (strict_inside t))

-- ---- their bytes

-- a string that stands in a printable text is printable
pub printed_item : (t : List ℕ) (v : Value) → printable t ≡ true → Printed (item_of t v)
printed_item t Default h = tt
printed_item t (Whole neg size) h = tt
printed_item t (Real neg m eneg e double) h = tt
printed_item t (Text start count) h = print_take count (drop start t) (print_drop start t h)

abbrev PrintedValues : Values → Type 0
PrintedValues (values vs end) = Prints vs
PrintedValues (wrong n s at) = Unit {0}

module _ (w c d : ℕ) (t : List ℕ) (h : printable t ≡ true) where
  printed-add : (v : Item) (vs : Values) → Printed v → PrintedValues vs → PrintedValues (more v vs)
  printed-add v (values vs end) f g = (f, g)
  printed-add v (wrong n s at) f g = tt

  printed-after : (rest : ℕ → Values) (g : Got) → ((next : ℕ) → PrintedValues (rest next)) → PrintedValues (after t rest g)
  printed-after rest (Ok x) r = by x.last
    where
      by : (last : Bool) → PrintedValues (after t rest (found_at x.value x.start x.next last))
      by true = (printed_item t x.value h, tt)
      by false = printed-add (item_of t x.value) (rest x.next) (printed_item t x.value h) (r x.next)
  printed-after rest (Err x) r = tt

  printed-from : (k p : ℕ) → PrintedValues (values_from k w c d t p)
  unfolding values_from
  printed-from zero p = tt
  printed-from (suc k) p = printed-after (values_from k w c d t) (value_at w c d t p) (printed-from k)

  pub printed_values : (p : ℕ) {vs : List Item} {end : ℕ} → values_at w c d t p ≡ values vs end → Prints vs
  unfolding values_at
  printed_values p e = rw e at (printed-from (suc (length t)) p)

-- ---- without the defaults at the end

-- no value ends the list but one that is given
pub trim_idle : (vs : List Item) → trimmed (trimmed vs) ≡ trimmed vs
trim_idle [] = refl
trim_idle (v ∷ vs) = pick (trimmed vs) (is_default v) refl (trim_idle vs)
  where
    pick : (us : List Item) (b : Bool) → is_default v ≡ b → trimmed us ≡ us → trimmed (trim v us) ≡ trim v us
    pick [] true e h = rw (e, trimmed)
    pick [] false e h = simp e
    pick (u ∷ us) b e h = rw h

-- the rest of a record, its defaults at the end dropped, behind a value that is given
pub fine_trimmed : {v : Item} {vs : List Item} → Fines (v ∷ vs) → Fines (v ∷ trimmed vs)
fine_trimmed (fine_one f) = fine_one f
fine_trimmed (fine_more {v} {u} {vs} f g) = pick (trimmed vs) (is_default u) refl (fine_trimmed g)
  where
    pick : (us : List Item) (b : Bool) → is_default u ≡ b → Fines (u ∷ us) → Fines (v ∷ trim u us)
    pick [] true e h = rw e (fine_one f)
    pick [] false e h = rw e (fine_more f h)
    pick (x ∷ us) b e h = fine_more f h

pub prints_trimmed : (vs : List Item) → Prints vs → Prints (trimmed vs)
prints_trimmed [] h = tt
prints_trimmed (v ∷ vs) h = pick (trimmed vs) (is_default v) refl (prints_trimmed vs h.1)
  where
    pick : (us : List Item) (b : Bool) → is_default v ≡ b → Prints us → Prints (trim v us)
    pick [] true e g = rw e tt
    pick [] false e g = rw e (h.0, tt)
    pick (u ∷ us) b e g = (h.0, g)
