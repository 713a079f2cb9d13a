-- A line more by what was read of it, what a tally comes to, and its bounds.
use mathlib.Core.Path.{◌≡◌, refl, sym, ap, ◌∙◌}
use mathlib.Core.Bool.{Bool, false}
use mathlib.Core.List.{List}
use Prim.Native.Nat.{ℕ, ◌+◌, ◌^◌, ◌≤◌, ◌<◌}
use native.Mathlib.Omega.{arith}
use lib.ListN.{length, drop}
use borrow.Author.Tests.{le-leb, lt-leb}
use Rattle.std.proofs.Common.{None, Some}
use Rattle.columns.specs.declared.Signed.{Signed}
use Rattle.columns.specs.Format.{text_columns, parameter_columns, most_lines}
use Rattle.values.specs.declared.Value.{Value}
use Rattle.values.specs.declared.Value.TheVariants.{Whole}
use Rattle.values.specs.Value.{Item, whole, item_of}
use Rattle.values.specs.Strict.{strict_of}
use Rattle.values.specs.Writing.{front}
use Rattle.values.proofs.OneSpelling.{sound, strict_short}
use Rattle.records.specs.Flow.{firm, line_count}
use Rattle.records.specs.Reading.{Writable}
use Rattle.records.specs.Written.{copied, piece_end}
use Rattle.records.proofs.Lines.{lines_hold}
use Rattle.records.proofs.Round.{length-piece}
use Rattle.records.proofs.Fine.{strict_writable}
use Rattle.records.proofs.Puts.{piece_end_is, spelled-length, copied_few}
use Rattle.cards.specs.declared.Counts.{Counts}
use Rattle.cards.specs.Cards.{counts}
use Rattle.directory.specs.declared.Fields.{Fields}
use Rattle.sheets.specs.declared.Said.{Said}
use Rattle.sheets.specs.declared.Said.TheVariants.{Start, Global, Entry, Value as Given, Last, Nothing}
use Rattle.sheets.specs.Sheet.{line_from, says_of, said_by}
use Rattle.values.proofs.Backs.{strict_inside}
use Rattle.sheets.proofs.Walk.{line_says}
use Rattle.file_canonical.specs.declared.Tally.{Tally}
use Rattle.file_canonical.specs.Counting.{behind, skipped, with_start, with_global, with_entry, with_value, tally_line, tally_said, counts_in, total_in, within, most_columns, behind_value, full, capped, Under, Few, Short}
use Rattle.sheets.proofs.Limits.{Can, says_can}
use Rattle.file_canonical.proofs.Counted.{within_few, within-many}

-- ---- by what was read

said_short : (l : List ℕ) (y : Said) → Can l y → Short y
said_short l Start k = tt
said_short l (Global n at v) k = copied_few (length (drop at l)) v k
said_short l (Entry known n f) k = tt
said_short l (Given reference v) k = copied_few (length (drop 2 l)) v k
said_short l (Last n) k = tt
said_short l (Nothing b) k = tt

-- a string that a line says is short
pub line_short : (l : List ℕ) (y : Said) → y ≡ says_of l → Short y
line_short l y e = said_short l y (rw e (says_can l))

behind-is : (w p : ℕ) (t : List ℕ) (v : Value) → Writable (length t) v → piece_end w p v ≡ behind w p (item_of t v)
unfolding behind
behind-is w p t v k = piece_end_is w p t v false k

-- a number stands in no text
behind_whole : (w p size : ℕ) → piece_end w p (Whole false size) ≡ behind w p (whole false size)
unfolding behind piece_end firm
behind_whole w p size = omega (arith, length-piece w p (whole false size) false)

tally_can : (x : Tally) (l : List ℕ) (y : Said) → Can l y → tally_said x y ≡ tally_line x (line_from l y)
tally_can x l Start k = refl
tally_can x l (Global n at v) k = ap (with_global x n) (behind-is text_columns (x.global + skipped x.field n) (drop at l) v k)
tally_can x l (Entry known n f) k = ap (with_entry x (line_count parameter_columns x.at)) (behind_whole parameter_columns 0 f.entity.size)
tally_can x l (Given reference v) k = ap (with_value x) (behind-is parameter_columns x.at (drop 2 l) v k)
tally_can x l (Last n) k = refl
tally_can x l (Nothing b) k = refl

-- a line more, by what was read of it
pub tally-line : (x : Tally) (l : List ℕ) (y : Said) → y ≡ says_of l → tally_said x y ≡ tally_line x (said_by l)
tally-line x l y e = tally_can x l y (rw e (says_can l)) ∙ ap (tally_line x) (sym (line_says l y e))

-- ---- bounds

-- a tally that a file may have
tally_under : (x : Tally) → total_in x ≤ most_lines → Under (2 ^ 36) x
unfolding total_in counts_in
tally_under x h =
    let g = lines_hold 72 x.global (omega arith) in
    let a = lines_hold 64 x.at (omega arith) in
    record { s = omega arith; global = omega arith; d = omega arith; p = omega arith; at = omega arith }

tally_few : (x : Tally) → total_in x ≤ most_lines → Few x
unfolding total_in counts_in
tally_few x h = record { s = omega arith; g = omega arith; d = omega arith; p = omega arith }

pub under_more : (b c : ℕ) (x : Tally) → Under b x → b ≤ c → Under c x
under_more b c x u h = record { s = omega arith; global = omega arith; d = omega arith; p = omega arith; at = omega arith }

-- ---- what the functions are asked
module _ (x : Tally) where
  pub global_is : (n : ℕ) (v : Value) {k e : ℕ} → k ≡ skipped x.field n → e ≡ piece_end text_columns (x.global + k) v → with_global x n e ≡ with_global x n (piece_end text_columns (x.global + skipped x.field n) v)
  global_is n v p q = rw (q, p)

  pub entry-is : (typ : ℕ) {k e : ℕ} → k ≡ line_count parameter_columns x.at → e ≡ piece_end parameter_columns 0 (Whole false typ) → with_entry x k e ≡ with_entry x (line_count parameter_columns x.at) (piece_end parameter_columns 0 (Whole false typ))
  entry-is typ p q = rw (q, p)

  pub value-is : (v : Value) {e : ℕ} → e ≡ piece_end parameter_columns x.at v → with_value x e ≡ with_value x (piece_end parameter_columns x.at v)
  value-is v q = rw q

  pub total-is : {g p : ℕ} → g ≡ line_count text_columns x.global → p ≡ line_count parameter_columns x.at → x.s + g + x.d + (x.p + p) + 1 ≡ total_in x
  unfolding total_in counts_in
  total-is e f = rw (e, f)

  pub counts_are : {g p : ℕ} → g ≡ line_count text_columns x.global → p ≡ line_count parameter_columns x.at → counts x.s g x.d (x.p + p) 1 ≡ counts_in x
  unfolding counts_in
  counts_are e f = rw (e, f)

  -- a line more
  module _ {y : Said} {r : Tally} where
    pub said-start : y ≡ Start → r ≡ with_start x → r ≡ tally_said x y
    said-start e q = q ∙ rw e

    pub said_global : {n at : ℕ} {v : Value} → y ≡ Global n at v → r ≡ with_global x n (piece_end text_columns (x.global + skipped x.field n) v) → r ≡ tally_said x y
    said_global e q = q ∙ rw e

    pub said-entry : {known : Bool} {n : Signed} {f : Fields} → y ≡ Entry known n f → r ≡ with_entry x (line_count parameter_columns x.at) (piece_end parameter_columns 0 (Whole false f.entity.size)) → r ≡ tally_said x y
    said-entry e q = q ∙ rw e

    pub said-value : {reference : Bool} {v : Value} → y ≡ Given reference v → r ≡ with_value x (piece_end parameter_columns x.at v) → r ≡ tally_said x y
    said-value e q = q ∙ rw e

  pub said_last : {y : Said} {n : ℕ} → y ≡ Last n → x ≡ tally_said x y
  said_last e = rw e

  pub said-none : {y : Said} {b : Bool} → y ≡ Nothing b → x ≡ tally_said x y
  said-none e = rw e

pub short_global : {y : Said} {n at : ℕ} {v : Value} → y ≡ Global n at v → Short y → copied v ≤ 999
short_global e h = rw e at h

pub short_value : {y : Said} {reference : Bool} {v : Value} → y ≡ Given reference v → Short y → copied v ≤ 999
short_value e h = rw e at h

-- ---- a value line: what it says is its canonical spelling
module _ (l : List ℕ) {v : Value} (s : strict_of l ≡ Some v) where
  pub strict_length : length l ≡ length (front v) + copied v
  strict_length = sym (ap length (sound l s).text) ∙ spelled-length l v (rw s at (strict_inside l))

  pub strict_low : length l < 2 ^ 40
  strict_low = omega (arith, strict_short l s)

  module _ (p : ℕ) (h : p ≤ most_columns) {r : ℕ} where
    pub value_near : r ≡ piece_end parameter_columns p v → r ≡ behind_value p (item_of l v)
    unfolding behind_value
    value_near e = e ∙ behind-is parameter_columns p l v (strict_writable l v s) ∙ simp (le-leb p most_columns h)

    pub value_low : r ≤ p + length l + 81 → r ≤ 2 ^ 38
    value_low k = omega (arith, strict_short l s)

pub value_far : (p : ℕ) (i : Item) → most_columns < p → p ≡ behind_value p i
unfolding behind_value
value_far p i h = simp (lt-leb p most_columns h)

pub ruleset valued = (strict_length, strict_low, value_near, value_low, value_far)

-- ---- as many lines as a file may have, or too many
module _ (x : Tally) {m : ℕ} (e : m ≡ total_in x) where
  module _ (h : m ≤ most_lines) where
    pub total_under : Under (2 ^ 36) x
    total_under = tally_under x (omega arith)

    pub total_few : Few x
    total_few = tally_few x (omega arith)

    pub capped-here : x ≡ capped x
    unfolding capped
    capped-here = simp (le-leb (total_in x) most_lines (omega arith))

    pub within-here : {c : Counts} → c ≡ counts_in x → Some c ≡ within x
    within-here q = ap Some q ∙ sym (within_few x (sym e) h)

  module _ (h : most_lines < m) where
    pub capped-full : full ≡ capped x
    unfolding capped
    capped-full = simp (lt-leb (total_in x) most_lines (omega arith))

    pub within-not : None ≡ within x
    within-not = sym (within-many x (sym e) h)

pub full_under : Under (2 ^ 36) full
full_under = record { s = omega arith; global = omega arith; d = omega arith; p = omega arith; at = omega arith }

pub value_under : (x : Tally) (at : ℕ) → Under (2 ^ 38) x → at ≤ 2 ^ 38 → Under (2 ^ 38) (with_value x at)
value_under x at u h = record { s = u.s; global = u.global; d = u.d; p = u.p; at = h }

pub ruleset fullness = (total_under, total_few, capped-here, within-here, capped-full, within-not, full_under, value_under, under_more)

pub ruleset said = (said-start, said_global, said-entry, said-value, said_last, said-none, short_global, short_value, under_more)

pub ruleset tallies = (global_is, entry-is, value-is, total-is, counts_are)
