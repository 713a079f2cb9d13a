-- A vector passes as its parts tell: each test by its own answer.
use mathlib.Core.Path.{◌≡◌, ap, ◌∙◌}
use mathlib.Core.Bool.{Bool, true, false}
use mathlib.Core.List.{List, ◌++◌}
use Prim.Native.Nat.{ℕ, ◌-◌, ◌≤◌, ◌<◌}
use native.Mathlib.Omega.{arith}
use lib.ListN.{length, take, drop, length-replicate}
use lib.Dec.{eqb}
use borrow.Author.Tests.{le-leb, lt-leb, eq-eqb, ne_eqb, not-true, not-false}
use Rattle.columns.specs.Columns.{same_bytes}
use Rattle.desk.specs.declared.Answer.{Answer}
use Rattle.model.specs.Read.{reads}
use Rattle.model.specs.Write.{writes}
use Rattle.desk.specs.Answers.{answer_of, left_in}
use Rattle.vectors.specs.Passing.{filler, ready, untouched, is_answer, holds, ran, gives, wants_room, passes, scored}
use Rattle.vectors.proofs.Rooms.{take-ready, drop-ready}

-- ---- the answer

module _ (a : Answer) (n place len : ℕ) where
  pub other-number : (a.number ≡ n → ⊥) → false ≡ is_answer a n place len
  unfolding is_answer
  other-number h = rw (ne_eqb a.number n h)

  pub other_place : a.number ≡ n → (a.place ≡ place → ⊥) → false ≡ is_answer a n place len
  unfolding is_answer
  other_place e h = rw (eq-eqb a.number n e, ne_eqb a.place place h)

  pub by_length : a.number ≡ n → a.place ≡ place → eqb a.length len ≡ is_answer a n place len
  unfolding is_answer
  by_length e h = rw (eq-eqb a.number n e, eq-eqb a.place place h)

pub ruleset answers = (other-number, other_place, by_length)

-- ---- the bytes

module _ (out bs : List ℕ) where
  pub holds_short : length out < length bs → false ≡ holds out bs
  unfolding holds
  holds_short h = rw (lt-leb (length bs) (length out) h)

  module _ (le : length bs ≤ length out) (b : Bool) (is : b ≡ same_bytes (take (length bs) out) bs) where
    pub holds-other : b ≡ false → false ≡ holds out bs
    unfolding holds
    holds-other e = rw (le-leb (length bs) (length out) le, ← is, e)

    pub holds_rest : b ≡ true → (u : Bool) → u ≡ untouched (drop (length bs) out) → u ≡ holds out bs
    unfolding holds
    holds_rest e u r = rw (le-leb (length bs) (length out) le, ← is, e) r

pub ruleset holding = (not-true, not-false, holds_short, holds-other, holds_rest)

-- ---- read or written

module _ (op list : ℕ) (input o o' : List ℕ) (r : Answer) where
  pub ran-read : op ≡ 0 → r ≡ answer_of (length o) (reads list input) → r ≡ answer_of (length o) (ran op list input)
  unfolding ran
  ran-read e h = rw (eq-eqb op 0 e) h

  pub left_read : op ≡ 0 → o' ≡ left_in o (reads list input) → o' ≡ left_in o (ran op list input)
  unfolding ran
  left_read e h = rw (eq-eqb op 0 e) h

  pub ran_write : (op ≡ 0 → ⊥) → r ≡ answer_of (length o) (writes list input) → r ≡ answer_of (length o) (ran op list input)
  unfolding ran
  ran_write e h = rw (ne_eqb op 0 e) h

  pub left_write : (op ≡ 0 → ⊥) → o' ≡ left_in o (writes list input) → o' ≡ left_in o (ran op list input)
  unfolding ran
  left_write e h = rw (ne_eqb op 0 e) h

pub ruleset running = (ran-read, left_read, ran_write, left_write)

-- ---- in a buffer that is long enough

module _ (op list n place : ℕ) (input expected o o₁ : List ℕ) (a : Answer) (b : Bool) (same : length o₁ ≡ length o)
    (told : a ≡ answer_of (length o₁) (ran op list input)) (is : b ≡ is_answer a n place (length expected)) where
  pub gives_no : b ≡ false → false ≡ gives op list n place input expected (length o)
  unfolding gives
  gives_no e = rw (← same, ← told, ← is, e)

  pub gives-bytes : b ≡ true → (o₂ : List ℕ) (h : Bool) → o₁ ≡ ready (length o) → o₂ ≡ left_in o₁ (ran op list input) → h ≡ holds o₂ expected
      → h ≡ gives op list n place input expected (length o)
  unfolding gives
  gives-bytes e o₂ h fresh left r = rw (← fresh, ← same, ← told, ← is, e, ← left) r

pub ruleset giving = (not-true, not-false, gives_no, gives-bytes)

-- ---- in one that is a byte too short

module _ (op list len : ℕ) (input o : List ℕ) where
  pub room-none : len ≡ 0 → true ≡ wants_room op list input len (length o)
  unfolding wants_room
  room-none e = rw (eq-eqb len 0 e)

  module _ (some : len ≡ 0 → ⊥) where
    pub room_short : length o < len → false ≡ wants_room op list input len (length o)
    unfolding wants_room
    room_short h = rw (ne_eqb len 0 some, lt-leb len (length o) h)

    module _ (le : len ≤ length o) (o₁ : List ℕ) (fresh : o₁ ≡ ready (length o)) (a : Answer) (b : Bool)
        (told : a ≡ answer_of (length (take (len - 1) o₁)) (ran op list input)) (is : b ≡ is_answer a 16 0 len) where
      front : take (len - 1) o₁ ≡ ready (len - 1)
      front = ap (take (len - 1)) fresh ∙ take-ready (len - 1) (length o) (omega arith)

      size : length (take (len - 1) o₁) ≡ len - 1
      size = ap length front ∙ length-replicate (len - 1) filler

      answered : a ≡ answer_of (len - 1) (ran op list input)
      answered = told ∙ ap (λ (k : ℕ). answer_of k (ran op list input)) size

      pub room_no : b ≡ false → false ≡ wants_room op list input len (length o)
      unfolding wants_room
      room_no e = rw (ne_eqb len 0 some, le-leb len (length o) le, ← answered, ← is, e)

      pub room-untouched : b ≡ true → (part : List ℕ) (u : Bool) → part ≡ left_in (take (len - 1) o₁) (ran op list input)
          → u ≡ untouched (drop 0 (part ++ drop (len - 1) o₁)) → u ≡ wants_room op list input len (length o)
      unfolding wants_room
      room-untouched e part u left r =
          let l : part ≡ left_in (ready (len - 1)) (ran op list input) = left ∙ ap (λ (xs : List ℕ). left_in xs (ran op list input)) front in
          let d : drop (len - 1) o₁ ≡ ready (length o - (len - 1)) = ap (drop (len - 1)) fresh ∙ drop-ready (len - 1) (length o) in
          rw (ne_eqb len 0 some, le-leb len (length o) le, ← answered, ← is, e, ← l, ← d) r

pub ruleset room = (not-true, not-false, room-none, room_short, room_no, room-untouched)

-- ---- both

module _ (op list n place : ℕ) (input expected o : List ℕ) (b : Bool) (is : b ≡ gives op list n place input expected (length o)) where
  pub passes_no : b ≡ false → false ≡ passes op list n place input expected (length o)
  unfolding passes
  passes_no e = rw (← is, e)

  pub passes-room : b ≡ true → (o₁ : List ℕ) (w : Bool) → length o₁ ≡ length o → w ≡ wants_room op list input (length expected) (length o₁)
      → w ≡ passes op list n place input expected (length o)
  unfolding passes
  passes-room e o₁ w same r = rw (← is, e, ← same) r

pub ruleset passing = (not-true, not-false, passes_no, passes-room)

module _ (op list n place room : ℕ) (input expected : List ℕ) (b : Bool) (is : b ≡ passes op list n place input expected room) where
  pub scored-one : b ≡ true → 1 ≡ scored op list n place input expected room
  unfolding scored
  scored-one e = rw (← is, e)

  pub scored-none : b ≡ false → 0 ≡ scored op list n place input expected room
  unfolding scored
  scored-none e = rw (← is, e)

pub ruleset scoring = (scored-one, scored-none)
