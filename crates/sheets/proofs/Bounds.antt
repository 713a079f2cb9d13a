-- Where what a line says stands: within the line.
use mathlib.Core.Path.{◌≡◌, refl, ◌∙◌}
use mathlib.Core.Bool.{Bool, false, not, ◌&&◌}
use mathlib.Core.List.{List}
use Prim.Native.Nat.{ℕ, suc, ◌+◌, ◌-◌, ◌≤◌}
use native.Mathlib.Omega.{arith}
use lib.ListN.{length, take, drop, length-drop}
use Rattle.std.proofs.Common.{Option, Some, None}
use Rattle.columns.specs.Columns.{columns}
use Rattle.columns.proofs.Tests.{cond_cases, both_left}
use Rattle.columns.proofs.Columns.{length-columns}
use Rattle.values.specs.declared.Value.{Value}
use Rattle.values.specs.Value.{is_missing}
use Rattle.values.specs.Writing.{Inside, Placed}
use Rattle.values.specs.Strict.{strict_of}
use Rattle.values.proofs.Backs.{strict_inside}
use Rattle.sheets.specs.declared.EntryLine.{EntryLine}
use Rattle.sheets.specs.declared.Said.{Said}
use Rattle.sheets.specs.declared.Said.TheVariants.{Global, Nothing}
use Rattle.sheets.specs.Plain.{plain_of}
use Rattle.sheets.specs.Line.{run, entry_of, label_of}
use Rattle.sheets.specs.Sheet.{global_of, is_numbered, global_line, entry_line_of, value_of, says_of}
use Rattle.sheets.specs.Reading.{Within}
use Rattle.sheets.proofs.Marks.{says_each, marked_long}
use Rattle.sheets.proofs.Machine.{HasNumber, has_number}
use Rattle.sheets.proofs.Round.{entry_back, label_eight}

-- ---- a line

length_label : (l : List ℕ) → length (label_of l) ≡ length l - (length l - 8)
unfolding label_of
length_label l = length-drop (length l - 8) l

entry-within : (l : List ℕ) → Within (length l) (entry_line_of (entry_of l))
entry-within l = pick (entry_of l) refl
  where
    pick : (r : Option EntryLine) → entry_of l ≡ r → Within (length l) (entry_line_of r)
    pick (Some r) h = omega (arith, label_eight (label_of l) (entry_back l r.known r.number r.fields h).label, length_label l)
    pick None h = tt

module _ (l : List ℕ) (two : 2 ≤ length l) where
  rest : length (drop 2 l) ≡ length l - 2
  rest = length-drop 2 l

  value-within : (reference : Bool) → Within (length l) (value_of reference (strict_of (drop 2 l)))
  value-within reference = pick (strict_of (drop 2 l)) (strict_inside (drop 2 l))
    where
      pick : (x : Option Value) → Placed (length (drop 2 l)) x → Within (length l) (value_of reference x)
      pick (Some v) h = (two, rw rest at h)
      pick None h = tt

  global_within : Within (length l) (global_line (drop 2 l))
  unfolding global_line
  global_within = pick (strict_of (drop (suc (run 9 t)) t)) (strict_inside (drop (suc (run 9 t)) t))
    where
      t : List ℕ
      t = drop 2 l

      n : ℕ
      n = plain_of (take (run 9 t) t)

      pick : (x : Option Value) → Placed (length (drop (suc (run 9 t)) t)) x → Within (length l) (global_of (is_numbered t) n (2 + suc (run 9 t)) x)
      pick (Some v) h =
          cond_cases (Within (length l)) (is_numbered t && not (is_missing v)) (Global n (2 + suc (run 9 t)) v) (Nothing false)
          (λ e. inside (has_number t (both_left (is_numbered t) (not (is_missing v)) e))) (λ e. tt)
        where
          inside : HasNumber t → (3 ≤ n) × (n ≤ 24) × (2 + suc (run 9 t) ≤ length l) × Inside (length l - (2 + suc (run 9 t))) v
          inside k =
              let a : length (drop (suc (run 9 t)) t) ≡ length l - (2 + suc (run 9 t)) = length-drop (suc (run 9 t)) t ∙ omega (arith, rest) in
              (k.low, k.high, omega (arith, rest, k.tab), rw a at h)
      pick None h = tt

pub says_within : (l : List ℕ) → Within (length l) (says_of l)
says_within l =
    says_each (Within (length l)) l (λ b. tt) (λ m s. marked_long l m) (λ m. global_within l (marked_long l m)) (λ known m. entry-within l)
    (λ reference m. value-within l (marked_long l m) reference) (λ m e. tt)

pub line-within : (s : List ℕ) (at end : ℕ) (r : Said) → r ≡ says_of (columns s at end) → at ≤ end → end ≤ length s → Within (end - at) r
line-within s at end r e h k = rw (e, ← length-columns s at end h k) (says_within (columns s at end))

pub strict_placed : (s : List ℕ) (at end : ℕ) (r : Option Value) → at ≤ end → end ≤ length s → r ≡ strict_of (columns s at end) → Placed (end - at) r
strict_placed s at end r h k e = rw (e, ← length-columns s at end h k) (strict_inside (columns s at end))

pub ruleset within = (line-within, strict_placed)
