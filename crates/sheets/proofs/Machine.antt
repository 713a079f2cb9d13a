-- What the functions that tell what a line says are asked.
use mathlib.Core.Path.{◌≡◌, refl, ap, ◌∙◌}
use mathlib.Core.Bool.{Bool, true, false, ◌&&◌}
use mathlib.Core.List.{List}
use Prim.Native.Nat.{ℕ, suc, ◌+◌, ◌-◌, ◌≤◌, ◌<◌}
use native.Mathlib.Omega.{arith}
use lib.ListN.{length, get_or, take, drop}
use lib.Dec.{ltb, leb, eqb}
use borrow.Author.Tests.{le-leb, lt-leb, lt-ltb, le-ltb, eq-eqb, ne_eqb, ltb-true, leb-true}
use Rattle.std.proofs.Common.{Option, Some, None}
use Rattle.columns.specs.declared.Signed.{Signed}
use Rattle.columns.specs.Columns.{columns, printable}
use Rattle.columns.specs.Decimal.{dec}
use Rattle.columns.specs.Format.{most_integer}
use Rattle.columns.proofs.Tests.{both}
use Rattle.columns.proofs.Columns.{columns-none, columns_rest, length-columns, byte_of}
use Rattle.values.specs.declared.Value.{Value}
use Rattle.values.specs.Strict.{strict_of}
use Rattle.values.specs.Value.{is_missing}
use Rattle.directory.specs.declared.Fields.{Fields}
use Rattle.sheets.specs.declared.EntryLine.{EntryLine}
use Rattle.sheets.specs.declared.Said.{Said}
use Rattle.sheets.specs.declared.Said.TheVariants.{Start, Global, Entry, Value as Given, Last, Nothing}
use Rattle.sheets.specs.Plain.{plain_of, is_plain}
use Rattle.sheets.specs.Line.{run, entry_of}
use Rattle.sheets.specs.Folds.{plain_fold}
use Rattle.sheets.specs.Sheet.{is_mark, is_start, start_line, global_of, is_field_number, is_numbered, global_line, entry_line_of, value_of, last_line, by_mark, says_of}
use Rattle.sheets.proofs.Plains.{first_byte, no_second, columns-take, columns-drop}
use Rattle.sheets.proofs.Digits.{plain_back}
use Rattle.sheets.proofs.Folds.{tells_good, tells_bad, plain-fold}

pub mark-r : (b : ℕ) → b ≡ 82 → eqb b 82 ≡ is_mark b
unfolding is_mark
mark-r b h = rw h

pub mark_v : (b : ℕ) → (b ≡ 82 → ⊥) → eqb b 86 ≡ is_mark b
unfolding is_mark
mark_v b h = simp (ne_eqb _ _ h)

-- ---- a start text
module _ (s : List ℕ) (at end : ℕ) (lo : at ≤ end) (le : end ≤ length s) where
  pub start_none : end ≡ at → true ≡ is_start (columns s at end)
  unfolding is_start printable
  start_none h = rw (h, columns-none)

  pub start_long : 72 < end - at → false ≡ is_start (columns s at end)
  unfolding is_start
  start_long h = simp (length-columns s at end lo le, lt-leb _ _ h)

  module _ (some : end ≡ at → ⊥) (short : end - at ≤ 72) where
    at_last : get_or (columns s at end) (end - at - 1) 0 ≡ get_or s (end - 1) 0
    at_last =
        let e : at + (end - at - 1) ≡ end - 1 = omega arith in
        byte_of s at end (end - at - 1) (omega arith) ∙ rw e

    pub start-blank : get_or s (end - 1) 0 ≡ 32 → false ≡ is_start (columns s at end)
    unfolding is_start
    start-blank h = simp (length-columns s at end lo le, le-leb _ _ short, at_last, eq-eqb _ _ h)

    pub start_plain : (r : Bool) → (get_or s (end - 1) 0 ≡ 32 → ⊥) → r ≡ printable (columns s at end) → r ≡ is_start (columns s at end)
    unfolding is_start
    start_plain r h e = e ∙ simp (length-columns s at end lo le, le-leb _ _ short, at_last, ne_eqb _ _ h)

pub start_yes : (t : List ℕ) (b : Bool) → b ≡ is_start t → b ≡ true → Start ≡ start_line t
unfolding start_line
start_yes t b p q = rw (← p, q)

pub start_no : (t : List ℕ) (b : Bool) → b ≡ is_start t → b ≡ false → Nothing false ≡ start_line t
unfolding start_line
start_no t b p q = rw (← p, q)

pub ruleset starts = (mark-r, mark_v, start_none, start_long, start-blank, start_plain, start_yes, start_no)

-- ---- a value
pub strict_part : (s : List ℕ) (at end : ℕ) (r : Option Value) → r ≡ strict_of (take (end - at) (drop at s)) → r ≡ strict_of (columns s at end)
unfolding columns
strict_part s at end r e = e

pub value_yes : (x : Option Value) (v : Value) (reference : Bool) → x ≡ Some v → Given reference v ≡ value_of reference x
value_yes x v reference e = rw e

pub value_no : (x : Option Value) (reference : Bool) → x ≡ None → Nothing true ≡ value_of reference x
value_no x reference e = rw e

pub ruleset values = (strict_part, value_yes, value_no)

-- ---- a G line
module _ (x : Option Value) (n at : ℕ) where
  pub global_not : x ≡ None → Nothing false ≡ global_of true n at x
  global_not e = rw e

  module _ (v : Value) (m : Bool) (e : x ≡ Some v) (p : m ≡ is_missing v) where
    pub global_default : m ≡ true → Nothing false ≡ global_of true n at x
    global_default q = rw (e, ← p, q)

    pub global_given_lem : m ≡ false → Global n at v ≡ global_of true n at x
    global_given_lem q = rw (e, ← p, q)

-- the number is told by the code's form of it
field_in : (f : List ℕ) (n : ℕ) → n ≡ plain_fold f → 3 ≤ n → n ≤ 24 → (is_field_number f ≡ true) × (n ≡ plain_of f)
unfolding is_field_number
field_in f n m l k =
    let g = tells_good (plain-fold f) (omega arith) in
    let e : n ≡ plain_of f = m ∙ g.1 in
    (simp (g.0, ← e, le-leb _ _ l, le-leb _ _ k), e)

field_out : (f : List ℕ) (n : ℕ) → n ≡ plain_fold f → leb 3 n && leb n 24 ≡ false → is_field_number f ≡ false
unfolding is_field_number
field_out f n m e = pick (is_plain f) refl
  where
    pick : (b : Bool) → is_plain f ≡ b → b && (leb 3 (plain_of f) && leb (plain_of f) 24) ≡ false
    pick true g = rw (← (plain-fold f).same g, ← m) e
    pick false g = refl

-- what is known where it is good
pub record HasNumber (t : List ℕ) : Type 0 where
  pub tab : run 9 t < length t
  pub spelt : dec (plain_of (take (run 9 t) t)) ≡ take (run 9 t) t
  pub low : 3 ≤ plain_of (take (run 9 t) t)
  pub high : plain_of (take (run 9 t) t) ≤ 24

pub has_number : (t : List ℕ) → is_numbered t ≡ true → HasNumber t
unfolding is_numbered is_field_number
has_number t e =
    let f = take (run 9 t) t in
    let a = both (ltb (run 9 t) (length t)) (is_plain f && (leb 3 (plain_of f) && leb (plain_of f) 24)) e in
    let b = both (is_plain f) (leb 3 (plain_of f) && leb (plain_of f) 24) a.1 in
    let c = both (leb 3 (plain_of f)) (leb (plain_of f) 24) b.1 in
    record { tab = ltb-true _ _ a.0; spelt = (plain_back f b.0).0; low = leb-true _ _ c.0; high = leb-true _ _ c.1 }

global_wrong : (t : List ℕ) → is_numbered t ≡ false → Nothing false ≡ global_line t
unfolding global_line
global_wrong t e = rw e (none (strict_of (drop (suc (run 9 t)) t)))
  where
    none : (x : Option Value) → Nothing false ≡ global_of false (plain_of (take (run 9 t) t)) (2 + suc (run 9 t)) x
    none (Some v) = refl
    none None = refl

pub global_right : (t : List ℕ) → is_numbered t ≡ true → global_of true (plain_of (take (run 9 t) t)) (2 + suc (run 9 t)) (strict_of (drop (suc (run 9 t)) t)) ≡ global_line t
unfolding global_line
global_right t e = rw e

module _ (s : List ℕ) (at e end : ℕ) (lo : at ≤ e) (hi : e ≤ end) (le : end ≤ length s) (en : e ≡ at + run 9 (columns s at end)) where
  at-run : run 9 (columns s at end) ≡ e - at
  at-run = omega arith

  pub global_short : e ≡ end → Nothing false ≡ global_line (columns s at end)
  unfolding is_numbered
  global_short h = global_wrong (columns s at end) (simp (at-run, length-columns s at end (omega arith) le, le-ltb (e - at) (end - at) (omega arith)))

  module _ (n : ℕ) (h : e ≡ end → ⊥) (m : n ≡ plain_fold (columns s at e)) where
    tabbed : is_numbered (columns s at end) ≡ is_field_number (columns s at e)
    unfolding is_numbered
    tabbed = simp (at-run, length-columns s at end (omega arith) le, lt-ltb (e - at) (end - at) (omega arith), columns-take s at e end lo hi)

    pub global_small : n < 3 → Nothing false ≡ global_line (columns s at end)
    global_small l = global_wrong (columns s at end) (tabbed ∙ field_out (columns s at e) n m (simp (lt-leb _ _ l)))

    pub global_large : 3 ≤ n → 24 < n → Nothing false ≡ global_line (columns s at end)
    global_large l k = global_wrong (columns s at end) (tabbed ∙ field_out (columns s at e) n m (simp (le-leb _ _ l, lt-leb _ _ k)))

    pub global_yes : (r : Said) (v : Option Value) → 3 ≤ n → n ≤ 24 → v ≡ strict_of (columns s (e + 1) end) → r ≡ global_of true n (2 + (e + 1 - at)) v → r ≡ global_line (columns s at end)
    global_yes r v l k p q =
        let g = field_in (columns s at e) n m l k in
        q ∙ named g.1 ∙ global_right (columns s at end) (tabbed ∙ g.0)
      where
        named : n ≡ plain_of (columns s at e) → global_of true n (2 + (e + 1 - at)) v
            ≡ global_of true (plain_of (take (run 9 (columns s at end)) (columns s at end))) (2 + suc (run 9 (columns s at end))) (strict_of (drop (suc (run 9 (columns s at end))) (columns s at end)))
        named g =
            let next : at + suc (e - at) ≡ e + 1 = omega arith in
            let from : 2 + (e + 1 - at) ≡ 2 + suc (e - at) = omega arith in
            rw (at-run, columns-take s at e end lo hi, columns-drop s at (suc (e - at)) end, next, ← p, ← g, from)

pub ruleset globals = (global_not, global_default, global_given_lem, global_short, global_small, global_large, global_yes)

-- ---- the others
module _ (t : List ℕ) (n : ℕ) (m : n ≡ plain_fold t) where
  pub last_yes : n ≤ most_integer → Last n ≡ last_line t
  unfolding last_line
  last_yes h =
      let g = tells_good (plain-fold t) (omega arith) in
      rw (g.0, ← g.1, m)

  pub last_no : most_integer < n → Nothing false ≡ last_line t
  unfolding last_line
  last_no h = rw (tells_bad (plain-fold t) (omega arith))

pub entry_yes : (x : Option EntryLine) (r : EntryLine) → x ≡ Some r → Entry r.known r.number r.fields ≡ entry_line_of x
entry_yes x r p = rw p

pub entry_no : (x : Option EntryLine) → x ≡ None → Nothing false ≡ entry_line_of x
entry_no x p = rw p

pub ruleset lines = (last_yes, last_no, entry_yes, entry_no)

-- ---- the line by its mark
module _ (s : List ℕ) (at end : ℕ) (lo : at ≤ end) (le : end ≤ length s) where
  pub mark_empty : end ≡ at → Nothing false ≡ says_of (columns s at end)
  unfolding says_of is_mark
  mark_empty h = rw (h, columns-none)

  module _ (some : end ≡ at → ⊥) where
    first : get_or (columns s at end) 0 0 ≡ get_or s at 0
    first = first_byte s at end (omega arith) le

    pub mark_short : (b : Bool) → end - at < 2 → b ≡ is_mark (get_or s at 0) → Nothing b ≡ says_of (columns s at end)
    unfolding says_of
    mark_short b h p = rw (no_second s at end lo le h, first, ← p)

    module _ (long : 2 ≤ end - at) where
      second : get_or (columns s at end) 1 0 ≡ get_or s (at + 1) 0
      second = byte_of s at end 1 (omega arith)

      pub mark_untabbed : (b : Bool) → (get_or s (at + 1) 0 ≡ 9 → ⊥) → b ≡ is_mark (get_or s at 0) → Nothing b ≡ says_of (columns s at end)
      unfolding says_of
      mark_untabbed b h p = simp (second, ne_eqb _ _ h, first, ← p)

      module _ (tab : get_or s (at + 1) 0 ≡ 9) where
        marked : says_of (columns s at end) ≡ by_mark (get_or s at 0) (columns s at end) (columns s (at + 2) end)
        unfolding says_of
        marked = simp (second, eq-eqb _ _ tab, first, columns-drop)

        module _ (r : Said) where
          pub mark-s : get_or s at 0 ≡ 83 → r ≡ start_line (columns s (at + 2) end) → r ≡ says_of (columns s at end)
          unfolding by_mark
          mark-s h q = q ∙ rw (marked, h)

          pub mark-g : get_or s at 0 ≡ 71 → r ≡ global_line (columns s (at + 2) end) → r ≡ says_of (columns s at end)
          unfolding by_mark
          mark-g h q = q ∙ rw (marked, h)

          pub mark_e : (x : Option EntryLine) → get_or s at 0 ≡ 69 → x ≡ entry_of (columns s at end) → r ≡ entry_line_of x → r ≡ says_of (columns s at end)
          unfolding by_mark
          mark_e x h p q = q ∙ rw (marked, h, p)

          pub mark-u : (x : Option EntryLine) → get_or s at 0 ≡ 85 → x ≡ entry_of (columns s at end) → r ≡ entry_line_of x → r ≡ says_of (columns s at end)
          unfolding by_mark
          mark-u x h p q = q ∙ rw (marked, h, p)

          pub mark_reference : (x : Option Value) → get_or s at 0 ≡ 82 → x ≡ strict_of (columns s (at + 2) end) → r ≡ value_of true x → r ≡ says_of (columns s at end)
          unfolding by_mark
          mark_reference x h p q = q ∙ rw (marked, h, p)

          pub mark-value : (x : Option Value) → get_or s at 0 ≡ 86 → x ≡ strict_of (columns s (at + 2) end) → r ≡ value_of false x → r ≡ says_of (columns s at end)
          unfolding by_mark
          mark-value x h p q = q ∙ rw (marked, h, p)

          pub mark_z : get_or s at 0 ≡ 90 → r ≡ last_line (columns s (at + 2) end) → r ≡ says_of (columns s at end)
          unfolding by_mark
          mark_z h q = q ∙ rw (marked, h)

        pub mark-none : (get_or s at 0 ≡ 83 → ⊥) → (get_or s at 0 ≡ 71 → ⊥) → (get_or s at 0 ≡ 69 → ⊥) → (get_or s at 0 ≡ 85 → ⊥) → (get_or s at 0 ≡ 82 → ⊥) → (get_or s at 0 ≡ 86 → ⊥) → (get_or s at 0 ≡ 90 → ⊥)
            → Nothing false ≡ says_of (columns s at end)
        unfolding by_mark
        mark-none h1 h2 h3 h4 h5 h6 h7 = rw marked (simp (ne_eqb _ _ h1, ne_eqb _ _ h2, ne_eqb _ _ h3, ne_eqb _ _ h4, ne_eqb _ _ h5, ne_eqb _ _ h6, ne_eqb _ _ h7))

pub ruleset marks = (mark_empty, mark_short, mark_untabbed, mark-s, mark-g, mark_e, mark-u, mark_reference, mark-value, mark_z, mark-none)

-- ---- a line's end
pub end_of : (t : List ℕ) (at r : ℕ) → r ≡ at + run 10 (columns t at (length t)) → r ≡ at + run 10 (drop at t)
end_of t at r e = e ∙ ap (λ (l : List ℕ). at + run 10 l) (columns_rest t at)
