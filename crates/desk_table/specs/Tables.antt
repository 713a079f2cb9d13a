-- The code's form: what is done with the table: by the plan, and by the records of a file's entries.
use Rattle.std.specs.Prelude.{cond, List, ℕ, zero, suc, ◌+◌, ◌*◌, ◌^◌, ◌≤◌, ◌<◌, length, set, leb, Ok, Err}
use Rattle.columns.specs.declared.Fault.TheVariants.{Room}
use Rattle.columns.specs.declared.ParameterLine.{ParameterLine}
use Rattle.columns.specs.Refusal.{number}
use Rattle.columns.specs.Format.{line_bytes}
use Rattle.cards.specs.declared.Counts.{Counts}
use Rattle.cards.specs.Cards.{first_d, entries}
use Rattle.directory.specs.declared.Fields.{Fields}
use Rattle.directory.specs.declared.EntryRead.TheVariants.{Spelt}
use Rattle.read_passes.specs.Listed.{listed_of, listed_at}
use Rattle.read_passes.specs.Passes.{BeforeAnswer}
use Rattle.read_weights.specs.Checks.{check_of}
use Rattle.desk.specs.declared.Answer.{Answer}
use Rattle.desk.specs.declared.Record.{Record}
use Rattle.desk.specs.Answers.{answer, record_of}
use Rattle.desk_table.specs.declared.Plan.{Plan}

-- nothing is stored
abbrev pub refusing : Answer → Plan
refusing a = record { answer = a; first = 0; count = 0 }

-- a file with these counts: 16 if the slots are too few
unfoldable pub plan_with : Counts → ℕ → Plan
plan_with c room =
    cond (leb (entries c) room) (record { answer = answer 0 0 (entries c); first = first_d c; count = entries c })
    (refusing (answer (number Room) 0 (entries c)))

-- as reading tells
abbrev pub plan_by : BeforeAnswer → ℕ → Plan
plan_by (Ok b) room = plan_with b.counts room
plan_by (Err r) room = refusing (answer (number r.fault) r.line.0 0)

-- under a list, for so many slots
unfoldable pub plan_of : ℕ → List ℕ → ℕ → Plan
plan_of list f room = plan_by (check_of list f) room

-- an entry's record from what its lines spell, n its directory number
abbrev pub record_spelt : ℕ → ℕ → Fields → List ℕ → ParameterLine → ℕ → Record
record_spelt list n x label from count = record_of list n (listed_of label (Spelt x from count))

-- the record of the entry whose first D line is line k
unfoldable pub record_at : ℕ → List ℕ → ℕ → ℕ → Record
record_at list f n k = record_of list n (listed_at f k)

-- that of entry i, where the first entry's first D line is line `first`
abbrev pub record_in : ℕ → List ℕ → ℕ → ℕ → Record
record_in list f first i = record_at list f (2 * i + 1) (first + 2 * i)

-- its lines stand in the file, and its directory number is one of 32 bits
abbrev pub HasEntry : List ℕ → ℕ → ℕ → Type 0
HasEntry f first i = (line_bytes * (first + 2 * i) + 2 * line_bytes ≤ length f) × (i < 2 ^ 30)

-- the slots with the first n of them taken by the records of a file's entries
abbrev pub filled : ℕ → List ℕ → ℕ → List Record → ℕ → List Record
filled list f first rs zero = rs
filled list f first rs (suc n) = set (filled list f first rs n) n (record_in list f first n)
