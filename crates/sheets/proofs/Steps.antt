-- What the functions of the machine over the lines are asked.
use mathlib.Core.Path.{◌≡◌}
use mathlib.Core.Bool.{Bool, true, false}
use Prim.Native.Nat.{ℕ, ◌+◌, ◌*◌, ◌≤◌, ◌<◌}
use borrow.Author.Tests.{le-leb, lt-leb, lt-ltb, le-ltb, eq-eqb, ne_eqb}
use Rattle.std.proofs.Common.{Err, Ok, Some, None, unwrap_or}
use Rattle.columns.specs.declared.SheetLine.{SheetLine}
use Rattle.columns.specs.declared.Signed.{Signed}
use Rattle.sheets.specs.declared.Said.{Said}
use Rattle.sheets.specs.declared.Said.TheVariants.{Start, Global, Entry, Value as Given, Last, Nothing}
use Rattle.sheets.specs.declared.SheetState.{SheetState}
use Rattle.values.specs.declared.Value.{Value}
use Rattle.values.specs.Value.{is_missing}
use Rattle.directory.specs.declared.Fields.{Fields}
use Rattle.sheets.specs.Order.{sheet_line, next, closed, start_step, global_step, entry_step, value_step, last_step, none_step, SheetStep}
use Rattle.sheets.specs.Reading.{step_said}

-- values that end with a default are wrong before anything else
module _ (st : SheetState) (w : SheetLine) (some : st.run ≡ Some w) where
  pub start-run : Err w ≡ start_step st
  unfolding start_step closed
  start-run = rw some

  pub global_run : (n : ℕ) → Err w ≡ global_step st n
  unfolding global_step closed
  global_run n = rw some

  pub entry-run : (x : Signed) → Err w ≡ entry_step st x
  unfolding entry_step closed
  entry-run x = rw some

  pub last_run : (n : ℕ) → Err w ≡ last_step st n
  unfolding last_step closed
  last_run n = rw some

  pub none-run : (b : Bool) → b ≡ false → Err w ≡ none_step st b
  unfolding none_step closed
  none-run b e = rw (e, some)

module _ (st : SheetState) (no : st.run ≡ None) where
  pub start_late : 1 < st.section → Err (sheet_line (st.line + 1)) ≡ start_step st
  unfolding start_step closed
  start_late h = simp (no, lt-leb _ _ h)

  pub start_good : st.section ≤ 1 → Ok (next st 1 st.field st.entries None) ≡ start_step st
  unfolding start_step closed
  start_good h = simp (no, le-leb _ _ h)

  pub none-none : (b : Bool) → b ≡ false → Err (sheet_line (st.line + 1)) ≡ none_step st b
  unfolding none_step closed
  none-none b e = rw e (simp no)

  pub global_early : (n : ℕ) → st.section < 1 → Err (sheet_line (st.line + 1)) ≡ global_step st n
  unfolding global_step closed
  global_early n h = simp (no, lt-leb _ _ h)

  pub entry_early : (x : Signed) → st.section < 1 → Err (sheet_line (st.line + 1)) ≡ entry_step st x
  unfolding entry_step closed
  entry_early x h = simp (no, lt-leb _ _ h)

  pub last_early : (n : ℕ) → st.section < 1 → Err (sheet_line (st.line + 1)) ≡ last_step st n
  unfolding last_step closed
  last_early n h = simp (no, lt-leb _ _ h)

  module _ (begun : 1 ≤ st.section) where
    pub global_late : (n : ℕ) → 2 < st.section → Err (sheet_line (st.line + 1)) ≡ global_step st n
    unfolding global_step closed
    global_late n h = simp (no, le-leb _ _ begun, lt-leb _ _ h)

    pub global_low : (n : ℕ) → st.section ≤ 2 → n ≤ st.field → Err (sheet_line (st.line + 1)) ≡ global_step st n
    unfolding global_step closed
    global_low n h k = simp (no, le-leb _ _ begun, le-leb _ _ h, le-ltb _ _ k)

    pub global_good : (n : ℕ) → st.section ≤ 2 → st.field < n → Ok (next st 2 n st.entries None) ≡ global_step st n
    unfolding global_step closed
    global_good n h k = simp (no, le-leb _ _ begun, le-leb _ _ h, lt-ltb _ _ k)

    pub entry_late : (x : Signed) → 3 < st.section → Err (sheet_line (st.line + 1)) ≡ entry_step st x
    unfolding entry_step closed
    entry_late x h = simp (no, le-leb _ _ begun, lt-leb _ _ h)

    pub entry-minus : (x : Signed) → st.section ≤ 3 → x.neg ≡ true → Err (sheet_line (st.line + 1)) ≡ entry_step st x
    unfolding entry_step closed
    entry-minus x h k = simp (no, le-leb _ _ begun, le-leb _ _ h, k)

    pub entry_other : (x : Signed) → st.section ≤ 3 → x.neg ≡ false → (x.size ≡ 2 * st.entries + 1 → ⊥) → Err (sheet_line (st.line + 1)) ≡ entry_step st x
    unfolding entry_step closed
    entry_other x h k d = simp (no, le-leb _ _ begun, le-leb _ _ h, k, ne_eqb _ _ d)

    pub entry_good : (x : Signed) → st.section ≤ 3 → x.neg ≡ false → x.size ≡ 2 * st.entries + 1 → Ok (next st 3 st.field (st.entries + 1) None) ≡ entry_step st x
    unfolding entry_step closed
    entry_good x h k d = simp (no, le-leb _ _ begun, le-leb _ _ h, k, eq-eqb _ _ d)

    pub last_late : (n : ℕ) → 3 < st.section → Err (sheet_line (st.line + 1)) ≡ last_step st n
    unfolding last_step closed
    last_late n h = simp (no, le-leb _ _ begun, lt-leb _ _ h)

    pub last_other : (n : ℕ) → st.section ≤ 3 → (n ≡ st.entries → ⊥) → Err (sheet_line (st.line + 1)) ≡ last_step st n
    unfolding last_step closed
    last_other n h d = simp (no, le-leb _ _ begun, le-leb _ _ h, ne_eqb _ _ d)

    pub last_good : (n : ℕ) → st.section ≤ 3 → n ≡ st.entries → Ok (next st 4 st.field st.entries None) ≡ last_step st n
    unfolding last_step closed
    last_good n h d = simp (no, le-leb _ _ begun, le-leb _ _ h, eq-eqb _ _ d)

module _ (st : SheetState) where
  pub none-value : (b : Bool) → b ≡ true → Err (sheet_line (st.line + 1)) ≡ none_step st b
  unfolding none_step
  none-value b e = rw e

  pub value_out : (b : Bool) → (st.section ≡ 3 → ⊥) → Err (sheet_line (st.line + 1)) ≡ value_step st b
  unfolding value_step
  value_out b h = simp (ne_eqb _ _ h)

  module _ (b : Bool) (h : st.section ≡ 3) where
    pub value_again : b ≡ true → Ok (next st 3 st.field st.entries (Some (unwrap_or st.run (sheet_line (st.line + 1))))) ≡ value_step st b
    unfolding value_step
    value_again e = simp (eq-eqb _ _ h, e)

    pub value-given : b ≡ false → Ok (next st 3 st.field st.entries None) ≡ value_step st b
    unfolding value_step
    value-given e = simp (eq-eqb _ _ h, e)

pub ruleset starts = (start-run, start_late, start_good)

pub ruleset globals = (global_run, global_early, global_late, global_low, global_good)

pub ruleset entries = (entry-run, entry_early, entry_late, entry-minus, entry_other, entry_good)

pub ruleset values = (value_out, value_again, value-given)

pub ruleset lasts = (last_run, last_early, last_late, last_other, last_good)

pub ruleset nones = (none-run, none-none, none-value)

-- ---- the step by what the line says
module _ (st : SheetState) (x : Said) (r : SheetStep) where
  pub step_start : x ≡ Start → r ≡ start_step st → r ≡ step_said st x
  step_start e q = rw e q

  pub step_global : (n at : ℕ) (v : Value) → x ≡ Global n at v → r ≡ global_step st n → r ≡ step_said st x
  step_global n at v e q = rw e q

  pub step-entry : (known : Bool) (n : Signed) (d : Fields) → x ≡ Entry known n d → r ≡ entry_step st n → r ≡ step_said st x
  step-entry known n d e q = rw e q

  pub step_value : (reference m : Bool) (v : Value) → x ≡ Given reference v → m ≡ is_missing v → r ≡ value_step st m → r ≡ step_said st x
  step_value reference m v e p q = rw (e, ← p) q

  pub step_last : (n : ℕ) → x ≡ Last n → r ≡ last_step st n → r ≡ step_said st x
  step_last n e q = rw e q

  pub step-none : (b : Bool) → x ≡ Nothing b → r ≡ none_step st b → r ≡ step_said st x
  step-none b e q = rw e q

pub ruleset steps = (step_start, step_global, step-entry, step_value, step_last, step-none)
