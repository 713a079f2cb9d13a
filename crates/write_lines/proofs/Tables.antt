-- The table of classes: filled line by line, and what a number names by it.
use mathlib.Core.Path.{◌≡◌, refl, sym, ap, ◌∙◌}
use mathlib.Core.Bool.{Bool}
use mathlib.Core.List.{List, [], ◌∷◌, ◌++◌, map}
use Prim.Native.Nat.{ℕ, zero, suc, ◌+◌, ◌-◌, ◌/◌, ◌%◌, ◌≤◌, ◌<◌}
use native.Mathlib.Omega.{arith}
use native.Mathlib.Decide.{dec_lt, ℕ_discrete}
use lib.ListN.{length, get_or, drop, set, replicate, length-set, length-replicate, get_or-replicate}
use lib.Seq.{get_or-set_same, get_or-set_other}
use lib.Dec.{leb}
use borrow.Author.Tests.{eq-eqb, ne_eqb, lt-ltb, le-ltb, le-leb}
use Rattle.std.proofs.Common.{Ok}
use Rattle.columns.specs.declared.Signed.{Signed}
use Rattle.columns.specs.Columns.{columns}
use Rattle.columns.specs.Laid.{laid, length-laid, laid-laid, laid_nil, Wrote}
use Rattle.references.specs.References.{class_of, class_at}
use Rattle.references.proofs.Classes.{class_range, class_at_lem, class_even, class_past}
use Rattle.directory.specs.declared.Fields.{Fields}
use Rattle.sheets.specs.declared.Said.{Said}
use Rattle.sheets.specs.declared.Said.TheVariants.{Start, Global, Entry, Value as Given, Last, Nothing}
use Rattle.sheets.specs.Line.{run}
use Rattle.sheets.specs.Sheet.{Line, says_of, line_from, said_by, lines_in}
use Rattle.sheets.specs.Order.{verdict_of}
use Rattle.sheets.proofs.Walk.{lines_first}
use Rattle.sheets_rows.specs.Rows.{types_in}
use Rattle.write_lines.specs.Heads.{head_of}
use Rattle.write_lines.specs.Classes.{sheet_types, classes_in, said_class, with_class, some_at, table_size, Tabled}
use Rattle.write_lines.specs.Shown.{Shown}
use Rattle.write_lines.proofs.Lines.{lines-piece, lines_none}
use Rattle.write_lines.proofs.Others.{class_other}
use Rattle.write_lines.proofs.Heading.{Quiet, head-tells}

-- ---- the class that a line heads

module _ (x : Said) where
  pub class_entry : (known : Bool) (n : Signed) (fields : Fields) (r : ℕ) → x ≡ Entry known n fields → r ≡ class_of fields.entity.size → r ≡ said_class x
  class_entry known n fields r e er = rw e er

pub class_line : (l : List ℕ) (x : Said) (r : ℕ) → x ≡ head_of l → r ≡ said_class x → r ≡ said_class (head_of l)
class_line l x r e er = er ∙ ap said_class e

pub ruleset said = (class_entry, class_other, class_line)

with_some : (c : ℕ) (cs : List ℕ) → 1 ≤ c → with_class c cs ≡ c ∷ cs
with_some zero cs h = absurd (omega arith)
with_some (suc c) cs h = refl

with-line : (c : ℕ) (cs : List ℕ) → with_class c cs ≡ with_class c [] ++ cs
with-line zero cs = refl
with-line (suc c) cs = refl

said_class_lem : (l : List ℕ) (ls : List Line) (x : Said) → classes_in (line_from l x ∷ ls) ≡ with_class (said_class x) (classes_in ls)
unfolding classes_in types_in
said_class_lem l ls Start = refl
said_class_lem l ls (Global n at v) = refl
said_class_lem l ls (Entry known n x) = sym (with_some (class_of x.entity.size) (map class_of (types_in ls)) (class_range x.entity.size).0)
said_class_lem l ls (Given reference v) = refl
said_class_lem l ls (Last n) = refl
said_class_lem l ls (Nothing b) = refl

quiet_class : (x : Said) → Quiet x → said_class x ≡ 0
quiet_class Start q = refl
quiet_class (Global _ _ _) q = elim q [ ]
quiet_class (Entry _ _ _) q = elim q [ ]
quiet_class (Given reference v) q = refl
quiet_class (Last n) q = refl
quiet_class (Nothing b) q = refl

line_class : (l : List ℕ) (ls : List Line) → classes_in (said_by l ∷ ls) ≡ with_class (said_class (head_of l)) (classes_in ls)
unfolding said_by
line_class l ls = said_class_lem l ls (says_of l) ∙ ap (λ (c : ℕ). with_class c (classes_in ls)) (sym (head-tells said_class quiet_class l))

-- ---- a walk over lines: what is left of the classes

module _ (t : List ℕ) (at n : ℕ) (all : n ≡ length t) where
  left_none : n ≤ at → classes_in (lines_in (drop at t)) ≡ []
  unfolding classes_in types_in
  left_none h = rw (lines_none t at (omega arith))

  module _ (end : ℕ) (lt : at < n) (lo : at ≤ end) (hi : end ≤ length t) (en : end ≡ at + run 10 (drop at t)) where
    left_piece : end ≡ n → classes_in (lines_in (drop at t)) ≡ []
    unfolding classes_in types_in
    left_piece h =
        let q = lines-piece t at (omega arith) (omega arith) in
        rw q.1

    module _ (h : end ≡ n → ⊥) (c : ℕ) (ec : c ≡ said_class (head_of (columns t at end))) where
      left : classes_in (lines_in (drop at t)) ≡ with_class c (classes_in (lines_in (drop (end + 1) t)))
      left = ap classes_in (lines_first t at end lo (omega arith) en) ∙ line_class (columns t at end) (lines_in (drop (end + 1) t)) ∙ ap (λ (k : ℕ). with_class k (classes_in (lines_in (drop (end + 1) t)))) (sym ec)

      left_other : c ≡ 0 → classes_in (lines_in (drop at t)) ≡ classes_in (lines_in (drop (end + 1) t))
      left_other e = left ∙ rw e

      left_entry : (c ≡ 0 → ⊥) → classes_in (lines_in (drop at t)) ≡ c ∷ classes_in (lines_in (drop (end + 1) t))
      left_entry e = left ∙ with_some c (classes_in (lines_in (drop (end + 1) t))) (omega arith)

      -- entry by entry: f is the class looked for
      module _ (k f : ℕ) (inv : get_or (classes_in (lines_in (drop at t))) k 0 ≡ f) where
        pub past-other : c ≡ 0 → get_or (classes_in (lines_in (drop (end + 1) t))) k 0 ≡ f
        past-other e = rw (left_other e) at inv

        pub past-here : (c ≡ 0 → ⊥) → k ≡ 0 → c ≡ f
        past-here e z = rw (left_entry e, z) at inv

        pub past-on : (c ≡ 0 → ⊥) → (k ≡ 0 → ⊥) → get_or (classes_in (lines_in (drop (end + 1) t))) (k - 1) 0 ≡ f
        past-on e z =
            let q : k ≡ suc (k - 1) = omega arith in
            let i : get_or (c ∷ classes_in (lines_in (drop (end + 1) t))) k 0 ≡ f = rw (left_entry e) at inv in
            rw q at i

    -- what is still to be laid
    module _ (o g : List ℕ) (k : ℕ) (inv : laid o k (classes_in (lines_in (drop at t))) ≡ g) where
      -- a whole line
      pub fill_said : (end ≡ n → ⊥) → (x : Said) {o' : List ℕ} {m : ℕ} → x ≡ says_of (columns t at end) → Wrote o k (with_class (said_class x) []) o' m
          → laid o' m (classes_in (lines_in (drop (end + 1) t))) ≡ g
      fill_said h x ex w =
          let rest : List ℕ = classes_in (lines_in (drop (end + 1) t)) in
          rw (w.bytes, w.next) (laid-laid o k (with_class (said_class x) []) rest ∙ ap (laid o k) (sym (with-line (said_class x) rest) ∙ sym (left h (said_class x) (ap said_class ex ∙ sym (head-tells said_class quiet_class (columns t at end))))) ∙ inv)

      pub fill_piece : end ≡ n → o ≡ g
      fill_piece h = sym (laid_nil o k) ∙ (rw (left_piece h) at inv)

    pub past-piece : (k f : ℕ) → get_or (classes_in (lines_in (drop at t))) k 0 ≡ f → end ≡ n → 0 ≡ f
    past-piece k f inv h = rw (left_piece h) at inv

  pub past_end : (k f : ℕ) → get_or (classes_in (lines_in (drop at t))) k 0 ≡ f → n ≤ at → 0 ≡ f
  past_end k f inv h = rw (left_none h) at inv

  pub fill_end : (o g : List ℕ) (k : ℕ) → laid o k (classes_in (lines_in (drop at t))) ≡ g → n ≤ at → o ≡ g
  fill_end o g k inv h = sym (laid_nil o k) ∙ (rw (left_none h) at inv)

pub ruleset walking = (past-other, past-here, past-on, past-piece, past_end)

pub fill_start : (o t : List ℕ) → laid o 0 (classes_in (lines_in (drop 0 t))) ≡ laid o 0 (classes_in (lines_in t))
fill_start o t = refl

pub wrote_length : {o : List ℕ} {at : ℕ} {bs o' : List ℕ} {r : ℕ} → Wrote o at bs o' r → (m : ℕ) → length o ≡ m → length o' ≡ m
wrote_length {o} {at} {bs} w m e = ap length w.bytes ∙ length-laid o at bs ∙ e

pub ruleset laying = (fill_piece, fill_end, fill_start, wrote_length)

-- ---- a line's class into the table

module _ (o : List ℕ) (k : ℕ) (x : Said) (c : ℕ) (ec : c ≡ said_class x) where
  pub keep_none : c ≡ 0 → Wrote o k (with_class (said_class x) []) o k
  keep_none e = rw (← ec, e) (record { bytes = sym (laid_nil o k); next = omega arith })

  pub keep_one : (c ≡ 0 → ⊥) → {o' : List ℕ} {m : ℕ} → Wrote o k (c ∷ []) o' m → Wrote o k (with_class (said_class x) []) o' m
  keep_one e w = rw (← ec, with_some c [] (omega arith)) w

pub ruleset keeping = (keep_none, keep_one)

-- ---- what a number names

class_of_lem : (ts : List ℕ) (i : ℕ) → i < length ts → get_or (map class_of ts) i 0 ≡ class_of (get_or ts i 0)
class_of_lem [] i h = absurd (omega arith)
class_of_lem (x ∷ ts) zero h = refl
class_of_lem (x ∷ ts) (suc i) h = class_of_lem ts i (omega arith)

module _ (n number : ℕ) where
  pub some_even : (number % 2 ≡ 1 → ⊥) → 0 ≡ some_at n number
  unfolding some_at
  some_even h = simp (ne_eqb (number % 2) 1 h)

  pub some_past : number % 2 ≡ 1 → n ≤ number / 2 → 0 ≡ some_at n number
  unfolding some_at
  some_past h k = simp (eq-eqb (number % 2) 1 h, le-ltb (number / 2) n k)

  pub some_one : number % 2 ≡ 1 → number / 2 < n → 1 ≡ some_at n number
  unfolding some_at
  some_one h k = simp (eq-eqb (number % 2) 1 h, lt-ltb (number / 2) n k)

  some_is : (some_at n number ≡ 0 → ⊥) → (number % 2 ≡ 1) × (number / 2 < n)
  some_is h = elim (ℕ_discrete (number % 2) 1) [
    | no e ↦ absurd (h (sym (some_even e)))
    | yes e ↦ elim (dec_lt (number / 2) n) [ yes k ↦ (e, k) | no k ↦ absurd (h (sym (some_past e (omega arith)))) ]
  ]

pub ruleset somes = (some_even, some_past, some_one)

module _ (classes : List ℕ) (n : ℕ) (t : List ℕ) (number : ℕ) (tab : Tabled classes n t) where
  pub number-none : (s : ℕ) → s ≡ some_at n number → s ≡ 0 → 0 ≡ class_at (sheet_types t) number
  number-none s e z = elim (ℕ_discrete (number % 2) 1) [
    | no h ↦ class_even (sheet_types t) number h
    | yes h ↦ elim (dec_lt (number / 2) n) [
      | no k ↦ class_past (sheet_types t) number (omega (arith, tab.count))
      | yes k ↦ absurd (omega (arith, some_one n number h k))
    ]
  ]

  -- there is an entry exactly if it has a class
  pub number_some : leb 1 (some_at n number) ≡ leb 1 (class_at (sheet_types t) number)
  number_some = elim (ℕ_discrete (some_at n number) 0) [
    | yes e ↦ rw (e, ← number-none (some_at n number) refl e)
    | no e ↦ some_class (some_is n number e)
  ]
    where
      some_class : (number % 2 ≡ 1) × (number / 2 < n) → leb 1 (some_at n number) ≡ leb 1 (class_at (sheet_types t) number)
      some_class h =
          let c = class_at_lem (sheet_types t) number h.0 (omega (arith, tab.count, h.1)) in
          rw (← some_one n number h.0 h.1, ← c) (sym (le-leb _ _ (class_range (get_or (sheet_types t) (number / 2) 0)).0))

  module _ (s : ℕ) (es : s ≡ some_at n number) (some : s ≡ 0 → ⊥) where
    pub number_walk : (r : ℕ) → r ≡ get_or (classes_in (lines_in t)) (number / 2) 0 → r ≡ class_at (sheet_types t) number
    unfolding classes_in sheet_types
    number_walk r e =
        let i = some_is n number (λ z. some (es ∙ z)) in
        let h : number / 2 < length (types_in (lines_in t)) = omega (arith, tab.count, i.1) in
        e ∙ class_of_lem (types_in (lines_in t)) (number / 2) h ∙ class_at_lem (types_in (lines_in t)) number i.0 h

    pub number_in : n ≤ table_size → number / 2 < length classes
    number_in h = omega (arith, tab.size, (some_is n number (λ z. some (es ∙ z))).1)

    pub number-table : n ≤ table_size → get_or classes (number / 2) 0 ≡ class_at (sheet_types t) number
    number-table h = number_walk (get_or classes (number / 2) 0) (tab.each h (number / 2) (omega (arith, number_in h, tab.size)))

pub number-shown : (t : List ℕ) (number r : ℕ) → Shown t number r → (r ≡ 0 → ⊥) → r ≡ class_at (sheet_types t) number
number-shown t number r s h = s.so h

pub ruleset names = (number-none, number_walk, number-table, number_in, number-shown)

-- ---- a table that was filled

before_at : (o : List ℕ) (k : ℕ) (cs : List ℕ) (i : ℕ) → i < k → get_or (laid o k cs) i 0 ≡ get_or o i 0
unfolding laid
before_at o k [] i h = refl
before_at o k (c ∷ cs) i h =
    let d : i ≡ k → ⊥ = omega arith in
    before_at (set o k c) (suc k) cs i (omega arith) ∙ get_or-set_other o k i c 0 d

laid-at : (cs o : List ℕ) (k j : ℕ) → k + j < length o → get_or o (k + j) 0 ≡ 0 → get_or (laid o k cs) (k + j) 0 ≡ get_or cs j 0
unfolding laid
laid-at [] o k j h z = z
laid-at (c ∷ cs) o k zero h z =
    let a : k + 0 ≡ k = omega arith in
    rw a (before_at (set o k c) (suc k) cs k (omega arith) ∙ get_or-set_same o k c 0 (omega arith))
laid-at (c ∷ cs) o k (suc j) h z =
    let a : k + suc j ≡ suc k + j = omega arith in
    let d : suc k + j ≡ k → ⊥ = omega arith in
    rw a (laid-at cs (set o k c) (suc k) j (rw (length-set o k c) (omega arith)) (get_or-set_other o k (suc k + j) c 0 d ∙ (rw a at z)))

laid_first : (cs o : List ℕ) (i : ℕ) → i < length o → get_or o i 0 ≡ 0 → get_or (laid o 0 cs) i 0 ≡ get_or cs i 0
laid_first cs o i h z =
    let a : 0 + i ≡ i = omega arith in
    rw a at (laid-at cs o 0 i (omega arith) (rw a z))

pub filled : (m : ℕ) (c : List ℕ) (n : ℕ) (t : List ℕ) → m ≡ table_size → c ≡ laid (replicate m 0) 0 (classes_in (lines_in t)) → n ≡ length (sheet_types t) → verdict_of t ≡ Ok n → Tabled c n t
filled m c n t em e en g = record {
  size = ap length e ∙ length-laid (replicate m 0) 0 (classes_in (lines_in t)) ∙ length-replicate {A = ℕ} m 0 ∙ em;
  each = λ few i h. ap (λ (l : List ℕ). get_or l i 0) e ∙ laid_first (classes_in (lines_in t)) (replicate m 0) i (rw (length-replicate {A = ℕ} m 0) (omega arith)) (get_or-replicate {A = ℕ} m i 0 0 (omega arith));
  count = en;
  good = g;
}
