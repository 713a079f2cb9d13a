-- Where the lines of each entry stand among the D and P lines of a canonical file: an entry has two D lines, and the block of its P lines follows
-- the block before it. Assumes nothing.
use mathlib.Core.Path.{◌≡◌, refl, ap, ◌∙◌}
use mathlib.Core.List.{List, [], ◌∷◌, ◌++◌, map, append_assoc, append-nil}
use Prim.Native.Nat.{ℕ, zero, suc, ◌+◌, ◌-◌, ◌*◌, ◌≤◌, ◌<◌}
use native.Mathlib.Omega.{arith}
use lib.ListN.{length, get_or, length-append, length-map, get_or-append}
use lib.Seq.{get_or_at, get_or-append-add}
use Rattle.records.specs.Flow.{in_lines}
use Rattle.records.proofs.Round.{length-flow}
use Rattle.directory.specs.Reading.{first_line, second_line}
use Rattle.directory.proofs.Puts.{entry-lines}
use Rattle.model.specs.Model.{Carried}
use Rattle.model.specs.Canonical.{parameter_text, owned, block_of, directory_lines, parameter_lines}
use Rattle.demands_back.proofs.Cuts.{lines_some}
use Rattle.demands_back.proofs.Fitting.{values_of}

-- ---- one entry

-- the columns 1-64 of its P lines
unfoldable pub record_lines : Carried → List (List ℕ)
record_lines e = in_lines 64 (parameter_text e)

-- how many there are
unfoldable pub count_of : Carried → ℕ
count_of e = length (record_lines e)

pub count-lines : (e : Carried) → count_of e ≡ length (record_lines e)
unfolding count_of
count-lines e = refl

pub count_block : (n : ℕ) (e : Carried) → length (block_of n e) ≡ count_of e
unfolding block_of count_of record_lines
count_block n e = length-map (in_lines 64 (parameter_text e)) (owned n)

-- one at least
pub count_some : (e : Carried) → 1 ≤ count_of e
unfolding count_of record_lines parameter_text
count_some e = lines_some 64 (parameter_text e) (omega arith) (omega (arith, length-flow 64 0 (values_of e)))

-- ---- lists

get_d_map : {A B : Type 0} (f : A → B) (xs : List A) (j : ℕ) (c : B) (d : A) → j < length xs → get_or (map f xs) j c ≡ f (get_or xs j d)
get_d_map f [] j c d h = absurd (omega arith)
get_d_map f (x ∷ xs) zero c d h = refl
get_d_map f (x ∷ xs) (suc j) c d h = get_d_map f xs j c d (omega arith)

-- a line of a block
block_line : (n : ℕ) (e : Carried) (j : ℕ) → j < count_of e → get_or (block_of n e) j [] ≡ owned n (get_or (record_lines e) j [])
unfolding block_of count_of record_lines
block_line n e j h = get_d_map (owned n) (in_lines 64 (parameter_text e)) j [] [] h

next_one : (A R : List (List ℕ)) (a b : List ℕ) (n : ℕ) → length A ≡ n → get_or (A ++ (a ∷ (b ∷ R))) (n + 1) [] ≡ b
next_one A R a b n e = rw (← e) (get_or-append-add A (a ∷ (b ∷ R)) 1 [])

among_block : (B X R : List (List ℕ)) (n j : ℕ) → length B ≡ n → j < length X → get_or (B ++ (X ++ R)) (n + j) [] ≡ get_or X j []
among_block B X R n j e h = rw (← e) (get_or-append-add B (X ++ R) j [] ∙ get_or-append X R [] j h)

-- ---- entry by entry

-- entry i stands in D and P: its first P line is line `from`, counted from 1
pub record Placed (D P : List (List ℕ)) (i from : ℕ) (e : Carried) : Type 0 where
  pub first : get_or D (2 * i) [] ≡ first_line e.fields from
  pub second : get_or D (2 * i + 1) [] ≡ second_line e.fields (count_of e) e.label
  pub block : (j : ℕ) → j < count_of e → get_or P (from - 1 + j) [] ≡ owned (2 * i + 1) (get_or (record_lines e) j [])
  pub among : 2 * i + 1 < length D
  pub low : 1 ≤ from
  pub inside : from + count_of e ≤ length P + 1

-- its pointer and its line count are no larger than P
pub placed_small : (D P : List (List ℕ)) (i from : ℕ) (e : Carried) → Placed D P i from e → (from ≤ length P) × (count_of e ≤ length P)
placed_small D P i from e at = (omega (arith, at.inside, count_some e), omega (arith, at.inside, at.low))

-- the entries from entry i on stand in D and P one behind the other up to the end
pub data Laid (D P : List (List ℕ)) : ℕ → ℕ → List Carried → Type 0 where
  laid_none : {i from : ℕ} → length D ≡ 2 * i → length P + 1 ≡ from → Laid D P i from []
  laid_one : {i from : ℕ} {e : Carried} {es : List Carried} → Placed D P i from e → Laid D P (i + 1) (from + count_of e) es → Laid D P i from (e ∷ es)

-- two D lines for each entry
pub laid-length : (D P : List (List ℕ)) {i from : ℕ} {es : List Carried} → Laid D P i from es → length D ≡ 2 * (i + length es)
laid-length D P (laid_none {i} a b) = omega arith
laid-length D P (laid_one at more) = omega (arith, laid-length D P more)

-- ---- the canonical lines

directory_one : (n from : ℕ) (e : Carried) (es : List Carried)
    → directory_lines n from (e ∷ es) ≡ first_line e.fields from ∷ (second_line e.fields (count_of e) e.label ∷ directory_lines (n + 2) (from + count_of e) es)
unfolding directory_lines
directory_one n from e es = rw (count_block n e, entry-lines e.fields from (count_of e) e.label)

parameter_one : (n : ℕ) (e : Carried) (es : List Carried) → parameter_lines n (e ∷ es) ≡ block_of n e ++ parameter_lines (n + 2) es
unfolding parameter_lines
parameter_one n e es = refl

-- an entry behind the lines A and B of those before it, before the lines R and Q of the others
module _ (e : Carried) (i n from : ℕ) (A B R Q : List (List ℕ)) (k : n ≡ 2 * i + 1) (a : length A ≡ 2 * i) (b : length B + 1 ≡ from) where
  abbrev f : List ℕ
  f = first_line e.fields from

  abbrev s : List ℕ
  s = second_line e.fields (count_of e) e.label

  placed-behind : Placed (A ++ (f ∷ (s ∷ R))) (B ++ (block_of n e ++ Q)) i from e
  placed-behind = record {
    first = get_or_at A f (s ∷ R) [] (2 * i) a;
    second = next_one A R f s (2 * i) a;
    block = λ j h. among_block B (block_of n e) Q (from - 1) j (omega arith) (omega (arith, count_block n e)) ∙ block_line n e j h ∙ ap (λ (m : ℕ). owned m (get_or (record_lines e) j [])) k;
    among = simp length-append (omega arith);
    low = omega arith;
    inside = omega (arith, length-append B (block_of n e ++ Q), length-append (block_of n e) Q, count_block n e);
  }

  laid_more : (es : List Carried) → Laid ((A ++ (f ∷ (s ∷ []))) ++ R) ((B ++ block_of n e) ++ Q) (i + 1) (from + count_of e) es
      → Laid (A ++ (f ∷ (s ∷ R))) (B ++ (block_of n e ++ Q)) i from (e ∷ es)
  laid_more es l = laid_one placed-behind (rw (append_assoc A (f ∷ (s ∷ [])) R, append_assoc B (block_of n e) Q) at l)

laid-behind : (es : List Carried) (i n from : ℕ) (A B : List (List ℕ)) → n ≡ 2 * i + 1 → length A ≡ 2 * i → length B + 1 ≡ from
    → Laid (A ++ directory_lines n from es) (B ++ parameter_lines n es) i from es
unfolding directory_lines parameter_lines
laid-behind [] i n from A B k a b = laid_none {i = i} {from = from} (rw append-nil a) (rw append-nil b)
laid-behind (e ∷ es) i n from A B k a b =
    rw (directory_one n from e es, parameter_one n e es)
    (laid_more e i n from A B (directory_lines (n + 2) (from + count_of e) es) (parameter_lines (n + 2) es) k a b es
    (laid-behind es (i + 1) (n + 2) (from + count_of e) (A ++ (first_line e.fields from ∷ (second_line e.fields (count_of e) e.label ∷ [])))
    (B ++ block_of n e) (omega arith) (simp length-append (omega arith)) (omega (arith, length-append B (block_of n e), count_block n e))))

-- all entries of a model
pub laid : (es : List Carried) → Laid (directory_lines 1 1 es) (parameter_lines 1 es) 0 1 es
laid es = laid-behind es 0 1 1 [] [] refl refl refl

-- two D lines each
pub length_directory : (es : List Carried) → length (directory_lines 1 1 es) ≡ 2 * length es
length_directory es = laid-length (directory_lines 1 1 es) (parameter_lines 1 es) (laid es) ∙ omega arith
