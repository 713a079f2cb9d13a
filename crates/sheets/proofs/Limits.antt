-- What a line says keeps its limits: a text of at most 72 bytes, and a value within its own, whose characters stand in the line. Assumes nothing.
use mathlib.Core.Path.{◌≡◌, refl}
use mathlib.Core.Bool.{Bool, true, false, not, ◌&&◌}
use mathlib.Core.List.{List}
use Prim.Native.Nat.{ℕ, suc, ◌+◌, ◌≤◌}
use lib.ListN.{length, take, drop}
use lib.Seq.{drop-drop}
use lib.Dec.{leb}
use borrow.Author.Tests.{leb-true}
use Rattle.std.proofs.Common.{Option, Some, None}
use Rattle.columns.proofs.Tests.{cond_cases, both_left}
use Rattle.values.specs.declared.Value.{Value}
use Rattle.values.specs.Value.{is_missing}
use Rattle.values.specs.Strict.{strict_of}
use Rattle.records.specs.Reading.{Writable}
use Rattle.records.proofs.Fine.{strict_writable}
use Rattle.sheets.specs.declared.EntryLine.{EntryLine}
use Rattle.sheets.specs.declared.Said.{Said}
use Rattle.sheets.specs.declared.Said.TheVariants.{Start, Global, Entry, Value as Given, Last, Nothing}
use Rattle.sheets.specs.Plain.{plain_of}
use Rattle.sheets.specs.Line.{run, entry_of, entry_got}
use Rattle.sheets.specs.Sheet.{is_start, global_of, is_numbered, global_line, entry_line_of, value_of, says_of}
use Rattle.sheets.proofs.Marks.{says_each}

-- what is read of a line: a text of at most 72 bytes, an entry line, a value within its limits
abbrev pub Can : List ℕ → Said → Type 0
Can l Start = length (drop 2 l) ≤ 72
Can l (Global n at v) = Writable (length (drop at l)) v
Can l (Entry known n f) = entry_of l ≡ entry_got known n f
Can l (Given reference v) = Writable (length (drop 2 l)) v
Can l (Last n) = Unit {0}
Can l (Nothing b) = Unit {0}

module _ (l : List ℕ) where
  value_can : (reference : Bool) → Can l (value_of reference (strict_of (drop 2 l)))
  value_can reference = pick (strict_of (drop 2 l)) refl
    where
      pick : (x : Option Value) → strict_of (drop 2 l) ≡ x → Can l (value_of reference x)
      pick (Some v) e = strict_writable (drop 2 l) v e
      pick None e = tt

  global_can : Can l (global_line (drop 2 l))
  unfolding global_line
  global_can = pick (strict_of (drop (suc (run 9 t)) t)) refl
    where
      t : List ℕ
      t = drop 2 l

      pick : (x : Option Value) → strict_of (drop (suc (run 9 t)) t) ≡ x
          → Can l (global_of (is_numbered t) (plain_of (take (run 9 t) t)) (2 + suc (run 9 t)) x)
      pick (Some v) e =
          cond_cases (Can l) (is_numbered t && not (is_missing v)) (Global (plain_of (take (run 9 t) t)) (2 + suc (run 9 t)) v) (Nothing false)
          (λ _. rw (drop-drop (suc (run 9 t)) 2 l) at (strict_writable (drop (suc (run 9 t)) t) v e)) (λ _. tt)
      pick None e = tt

  entry_can : Can l (entry_line_of (entry_of l))
  entry_can = pick (entry_of l) refl
    where
      pick : (r : Option EntryLine) → entry_of l ≡ r → Can l (entry_line_of r)
      pick (Some r) e = e
      pick None e = tt

  start_can : is_start (drop 2 l) ≡ true → length (drop 2 l) ≤ 72
  unfolding is_start
  start_can e = leb-true (length (drop 2 l)) 72 (both_left (leb (length (drop 2 l)) 72) _ e)

pub says_can : (l : List ℕ) → Can l (says_of l)
says_can l = says_each (Can l) l (λ b. tt) (λ m e. start_can l e) (λ m. global_can l) (λ known m. entry_can l) (λ reference m. value_can l reference) (λ m e. tt)
