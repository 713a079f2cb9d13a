-- The code's form: the answers of a pass, as outcomes give them.
use Rattle.std.specs.Prelude.{ℕ, Result, Ok, Err}
use Rattle.columns.specs.declared.FileLine.{FileLine}
use Rattle.columns.specs.declared.Refusal.{Refusal}
use Rattle.columns.specs.Refusal.{Outcome, accepted, refused, refusal_at}
use Rattle.cards.specs.declared.Counts.{Counts}
use Rattle.cards.specs.Shared.{file_line}
use Rattle.model.specs.Read.{GlobalRead, Before}
use Rattle.read_passes.specs.declared.Delimiters.{Delimiters}
use Rattle.read_passes.specs.declared.Before.{Before as Told}

-- these delimiters
abbrev pub delimiters : ℕ → ℕ → Delimiters
delimiters p d = record { parameter = p; closing = d }

-- these counts and delimiters
abbrev pub told : Counts → ℕ → ℕ → Told
told c p d = record { counts = c; parameter = p; closing = d }

-- what a pass answers, what G, and what all passes before the last
abbrev pub FilePass : Type 0
FilePass = Result (Unit {0}) (Refusal FileLine)

abbrev pub GlobalAnswer : Type 0
GlobalAnswer = Result Delimiters (Refusal FileLine)

abbrev pub BeforeAnswer : Type 0
BeforeAnswer = Result Told (Refusal FileLine)

-- whether all is accepted, or the first refusal
abbrev pub pass_of : {A : Type 0} → Outcome A → FilePass
pass_of (accepted a) = Ok tt
pass_of (refused n p) = Err (refusal_at n (file_line p))

-- the delimiters, or the first refusal
abbrev pub global_answer : Outcome GlobalRead → GlobalAnswer
global_answer (accepted g) = Ok (delimiters g.parameter g.record_end)
global_answer (refused n p) = Err (refusal_at n (file_line p))

-- the delimiters, where a pass is good
abbrev pub answer_of : FilePass → ℕ → ℕ → GlobalAnswer
answer_of (Ok u) p d = Ok (delimiters p d)
answer_of (Err r) p d = Err r

-- counts and delimiters, or the first refusal
abbrev pub before_answer : Outcome Before → BeforeAnswer
before_answer (accepted b) = Ok (told b.counts b.global.parameter b.global.record_end)
before_answer (refused n p) = Err (refusal_at n (file_line p))
