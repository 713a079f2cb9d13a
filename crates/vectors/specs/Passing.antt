-- The code's form: what it means that a vector passes. It is tried in a buffer that was filled, so that a byte that was changed is seen.
use Rattle.std.specs.Prelude.{Bool, true, cond, ◌&&◌, List, [], ◌∷◌, ◌++◌, ℕ, ◌-◌, length, take, drop, replicate, leb}
use Rattle.std.specs.Prelude.{eqb}
use Rattle.columns.specs.declared.Fault.TheVariants.{Room}
use Rattle.columns.specs.Columns.{same_bytes}
use Rattle.columns.specs.Refusal.{Outcome, number}
use Rattle.desk.specs.declared.Answer.{Answer}
use Rattle.model.specs.Read.{reads}
use Rattle.model.specs.Write.{writes}
use Rattle.desk.specs.Answers.{answer_of, left_in}

-- a byte that no sheet and no file has
abbrev pub filler : ℕ
filler = 170

-- a buffer of n bytes that is filled
abbrev pub ready : ℕ → List ℕ
ready n = replicate n filler

-- all of it is as it was filled
unfoldable pub untouched : List ℕ → Bool
untouched [] = true
untouched (b ∷ bs) = eqb b filler && untouched bs

-- the expected answer
unfoldable pub is_answer : Answer → ℕ → ℕ → ℕ → Bool
is_answer a n place len = eqb a.number n && (eqb a.place place && eqb a.length len)

-- a buffer begins with the expected bytes, and nothing else of it was changed
unfoldable pub holds : List ℕ → List ℕ → Bool
holds out bs = leb (length bs) (length out) && (same_bytes (take (length bs) out) bs && untouched (drop (length bs) out))

-- read (0) or written
unfoldable pub ran : ℕ → ℕ → List ℕ → Outcome (List ℕ)
ran op list input = cond (eqb op 0) (reads list input) (writes list input)

-- answer and bytes are the expected ones; a refusal has no bytes
unfoldable pub gives : ℕ → ℕ → ℕ → ℕ → List ℕ → List ℕ → ℕ → Bool
gives op list n place input expected room =
    let o = ran op list input in
    is_answer (answer_of room o) n place (length expected) && holds (left_in (ready room) o) expected

-- of an output of so many bytes: a buffer that is one byte too short gives 16 and that many, and stays as it was
unfoldable pub wants_room : ℕ → ℕ → List ℕ → ℕ → ℕ → Bool
wants_room op list input len room =
    let o = ran op list input in
    cond (eqb len 0) true
    (leb len room && (is_answer (answer_of (len - 1) o) (number Room) 0 len
    && untouched (left_in (ready (len - 1)) o ++ ready (room - (len - 1)))))

-- a vector passes, with a buffer of so many bytes at hand
unfoldable pub passes : ℕ → ℕ → ℕ → ℕ → List ℕ → List ℕ → ℕ → Bool
passes op list n place input expected room = gives op list n place input expected room && wants_room op list input (length expected) room

-- 1 for a vector that passes
unfoldable pub scored : ℕ → ℕ → ℕ → ℕ → List ℕ → List ℕ → ℕ → ℕ
scored op list n place input expected room = cond (passes op list n place input expected room) 1 0
