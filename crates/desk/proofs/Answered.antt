-- The answer of an outcome in a buffer, and what is left there: a refusal, bytes too many for it, bytes. Reading and writing alike. Assumes nothing.
use mathlib.Core.Path.{◌≡◌, refl}
use mathlib.Core.List.{List}
use Prim.Native.Nat.{ℕ, ◌≤◌, ◌<◌}
use native.Mathlib.Omega.{arith}
use lib.ListN.{length}
use borrow.Author.Tests.{le-leb, lt-leb}
use Rattle.columns.specs.declared.Fault.{Fault}
use Rattle.columns.specs.declared.Fault.TheVariants.{Room}
use Rattle.columns.specs.Laid.{Wrote}
use Rattle.columns.specs.Refusal.{Outcome, accepted, refused, number}
use Rattle.desk.specs.declared.Answer.{Answer}
use Rattle.desk.specs.Answers.{answer, answer_of, left_in}

module _ (x : Outcome (List ℕ)) (o : List ℕ) where
  module _ (n : Fault) (l : ℕ) (e : x ≡ refused n l) where
    pub refused_answer : (y : Answer) → y ≡ answer (number n) l 0 → y ≡ answer_of (length o) x
    unfolding answer_of
    refused_answer y ey = rw e ey

    pub refused_left : o ≡ left_in o x
    unfolding left_in
    refused_left = rw e refl

  module _ (bs : List ℕ) (e : x ≡ accepted bs) (k : ℕ) (ek : k ≡ length bs) where
    pub short_answer : (y : Answer) → length o < k → y ≡ answer (number Room) 0 k → y ≡ answer_of (length o) x
    unfolding answer_of
    short_answer y h ey = rw (e, lt-leb (length bs) (length o) (omega arith), ← ek) ey

    pub short_left : length o < k → o ≡ left_in o x
    unfolding left_in
    short_left h = rw (e, lt-leb (length bs) (length o) (omega arith)) refl

    module _ (h : k ≤ length o) (o' : List ℕ) (t : ℕ) (w : Wrote o 0 bs o' t) where
      pub whole_answer : answer 0 0 t ≡ answer_of (length o) x
      unfolding answer_of
      whole_answer =
          let s : t ≡ length bs = omega (arith, w.next) in
          rw (e, le-leb (length bs) (length o) (omega arith), s) refl

      pub whole_left : o' ≡ left_in o x
      unfolding left_in
      whole_left = rw (e, le-leb (length bs) (length o) (omega arith)) w.bytes
