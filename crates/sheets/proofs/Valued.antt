-- Value lines are told by how they begin: what follows R or V and a tab is a value, or the line says nothing; no other line says a value.
use mathlib.Core.Path.{◌≡◌, sym, ap, ◌∙◌}
use mathlib.Core.Bool.{Bool, true, false, cond, not, ◌&&◌}
use mathlib.Core.List.{List}
use Prim.Native.Nat.{ℕ, suc, ◌+◌, ◌-◌, ◌≤◌, ◌<◌}
use native.Mathlib.Omega.{arith}
use native.Mathlib.Decide.{ℕ_discrete, dec_le}
use lib.ListN.{length, get_or, take, drop}
use lib.Dec.{eqb}
use borrow.Author.Tests.{eqb-true, ne_eqb}
use Rattle.std.proofs.Common.{Option, Some, None}
use Rattle.columns.specs.Columns.{columns}
use Rattle.columns.proofs.Columns.{byte_of}
use Rattle.columns.proofs.Tests.{cond_cases, both_left, both_right, true_false}
use Rattle.values.specs.declared.Value.{Value}
use Rattle.values.specs.Strict.{strict_of}
use Rattle.values.specs.Value.{is_missing}
use Rattle.sheets.specs.declared.EntryLine.{EntryLine}
use Rattle.sheets.specs.declared.Said.TheVariants.{Global, Value as Given, Nothing}
use Rattle.sheets.specs.Plain.{plain_of}
use Rattle.sheets.specs.Line.{run, entry_of}
use Rattle.sheets.specs.Sheet.{is_mark, is_value, global_of, is_numbered, global_line, entry_line_of, value_of, by_mark, says_of}
use Rattle.sheets.specs.Reading.{NoValue}
use Rattle.sheets.proofs.Plains.{first_byte, no_second, columns-drop}
use Rattle.sheets.proofs.Marks.{Marked, says_each}

-- ---- the line's first two bytes

module _ (s : List ℕ) (at end : ℕ) (lo : at ≤ end) (hi : end ≤ length s) where
  pub value_short : end - at < 2 → false ≡ is_value (columns s at end)
  unfolding is_value
  value_short h = rw (no_second s at end lo hi h)

  module _ (two : 2 ≤ end - at) where
    second : get_or (columns s at end) 1 0 ≡ get_or s (at + 1) 0
    second = byte_of s at end 1 (omega arith)

    first : get_or (columns s at end) 0 0 ≡ get_or s at 0
    first = first_byte s at end (omega arith) hi

    pub value_untabbed : (get_or s (at + 1) 0 ≡ 9 → ⊥) → false ≡ is_value (columns s at end)
    unfolding is_value
    value_untabbed h = rw (second, ne_eqb (get_or s (at + 1) 0) 9 h)

    pub value-marked : (b : Bool) → get_or s (at + 1) 0 ≡ 9 → b ≡ is_mark (get_or s at 0) → b ≡ is_value (columns s at end)
    unfolding is_value
    value-marked b h e = e ∙ rw (second, first, h)

pub ruleset beginnings = (value_short, value_untabbed, value-marked)

-- ---- what such a line says

mark_says : (b : ℕ) (l t : List ℕ) → is_mark b ≡ true → by_mark b l t ≡ value_of (eqb b 82) (strict_of t)
unfolding by_mark is_mark
mark_says b l t h = pick (ℕ_discrete b 82)
  where
    pick : Dec (b ≡ 82) → by_mark b l t ≡ value_of (eqb b 82) (strict_of t)
    pick (yes e) = rw e
    pick (no e) =
        let k : b ≡ 86 = eqb-true b 86 (rw (ne_eqb b 82 e) at h) in
        rw k

says_value : (l : List ℕ) → is_value l ≡ true → says_of l ≡ value_of (eqb (get_or l 0 0) 82) (strict_of (drop 2 l))
unfolding says_of is_value
says_value l h =
    let a : eqb (get_or l 1 0) 9 ≡ true = both_left (eqb (get_or l 1 0) 9) (is_mark (get_or l 0 0)) h in
    let b : is_mark (get_or l 0 0) ≡ true = both_right (eqb (get_or l 1 0) 9) (is_mark (get_or l 0 0)) h in
    rw a (mark_says (get_or l 0 0) l (drop 2 l) b)

-- ---- what no other line says

no_global : (good : Bool) (n at : ℕ) (x : Option Value) → NoValue (global_of good n at x)
no_global good n at (Some v) = cond_cases NoValue (good && not (is_missing v)) (Global n at v) (Nothing false) (λ _. tt) (λ _. tt)
no_global good n at None = tt

no_globals : (t : List ℕ) → NoValue (global_line t)
unfolding global_line
no_globals t = no_global (is_numbered t) (plain_of (take (run 9 t) t)) (2 + suc (run 9 t)) (strict_of (drop (suc (run 9 t)) t))

no_entry_lem : (x : Option EntryLine) → NoValue (entry_line_of x)
no_entry_lem (Some r) = tt
no_entry_lem None = tt

-- a line with a value line's mark
marked-value : (l : List ℕ) (reference : Bool) → Marked l (cond reference 82 86) → is_value l ≡ true
unfolding is_value is_mark
marked-value l true m = rw (m.tab, m.mark)
marked-value l false m = rw (m.tab, m.mark)

no_line : (l : List ℕ) → is_value l ≡ false → NoValue (says_of l)
no_line l h =
    says_each NoValue l (λ b. tt) (λ m s. tt) (λ m. no_globals (drop 2 l)) (λ known m. no_entry_lem (entry_of l)) (λ reference m. absurd (true_false (marked-value l reference m) h))
    (λ m e. tt)

-- ---- as a walk meets them

module _ (s : List ℕ) (at end : ℕ) (b : Bool) (eb : b ≡ is_value (columns s at end)) where
  pub no_value : b ≡ false → NoValue (says_of (columns s at end))
  no_value e = no_line (columns s at end) (sym eb ∙ e)

  -- it has its first two bytes
  pub value_long : at ≤ end → end ≤ length s → b ≡ true → at + 2 ≤ end
  value_long lo hi e = pick (dec_le 2 (end - at))
    where
      pick : Dec (2 ≤ end - at) → at + 2 ≤ end
      pick (yes h) = omega arith
      pick (no h) =
          let f : false ≡ true = value_short s at end lo hi (omega arith) ∙ sym eb ∙ e in
          let k : ◌≡◌ {A = ℕ} 0 1 = cc in
          absurd (omega arith)

  module _ (lo : at + 2 ≤ end) (e : b ≡ true) (x : Option Value) (ex : x ≡ strict_of (columns s (at + 2) end)) where
    said : says_of (columns s at end) ≡ value_of (eqb (get_or s at 0) 82) x
    said =
        let z : at + 0 ≡ at = omega arith in
        let f : get_or (columns s at end) 0 0 ≡ get_or s at 0 = byte_of s at end 0 (omega arith) ∙ ap (λ (k : ℕ). get_or s k 0) z in
        says_value (columns s at end) (sym eb ∙ e) ∙ rw (f, columns-drop s at 2 end, ex)

    pub value-given : (v : Value) → x ≡ Some v → says_of (columns s at end) ≡ Given (eqb (get_or s at 0) 82) v
    value-given v h = said ∙ rw h

    pub value_not : x ≡ None → says_of (columns s at end) ≡ Nothing true
    value_not h = said ∙ rw h
