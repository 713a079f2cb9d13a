-- "Show that no second result fits": for every input a public function's contract determines its result, and each byte and slot that was
-- lent to it. The contract is the one that the source states: `Post` is made from the function's `ensures`, so what is shown here cannot
-- part from the source.
use Rattle.std.specs.Prelude.{◌≡◌, List, ℕ}
use contract.Lifetimes.{Lfts}
use denote.Triple.Clauses.{Lasts, at_exit}
use borrow.Fn.Kind.{ParamKind, ResultKind}
use borrow.Fn.Kinds.{Out, Dens, res_t, ended_of}
use Rattle.columns.specs.Refusal.{Outcome}
use Rattle.columns.specs.Laid.{Wrote}
use Rattle.desk.specs.declared.Answer.{Answer}
use Rattle.desk.specs.Answers.{answer_of}
use Rattle.read_file.proofs.read.Kinds as read-kinds
use Rattle.read_file.proofs.read.Reads as read-reads
use Rattle.write_sheet.proofs.write.Kinds as write-kinds
use Rattle.write_sheet.proofs.write.Reads as write-reads
use Rattle.szelmikra.proofs.szelmikra_read.Kinds as szelmikra-read-kinds
use Rattle.szelmikra.proofs.szelmikra_read.Reads as szelmikra-read-reads
use Rattle.szelmikra.proofs.szelmikra_write.Kinds as szelmikra-write-kinds
use Rattle.szelmikra.proofs.szelmikra_write.Reads as szelmikra-write-reads
use Rattle.desk_name.proofs.name.Kinds as name-kinds
use Rattle.desk_name.proofs.name.Reads as name-reads
use Rattle.desk_show.proofs.show.Kinds as show-kinds
use Rattle.desk_show.proofs.show.Reads as show-reads

-- Of a function with these parameters and this result: two results, each with last values of all that was lent by `&mut`, that both are as
-- `Post` has it for the same arguments, are the same, and so are the last values.
abbrev pub NoSecond : {n : ℕ} (ps : List (ParamKind n)) (r : ResultKind n) → Out n ps r → Type 0
NoSecond {n} ps r Post = (κs : Lfts n) (a : Dens κs ps) (z z' : (res_t r κs).Denot) (left left' : Lasts (ended_of n ps r) κs a)
    → Post κs a z (at_exit (ended_of n ps r) κs a left) → Post κs a z' (at_exit (ended_of n ps r) κs a left')
    → (z ≡ z') × (left ≡ left')

-- ---- the entry points

abbrev pub ReadDetermined : Type 0
ReadDetermined = NoSecond read-kinds.ps read-kinds.r read-reads.Post

abbrev pub WriteDetermined : Type 0
WriteDetermined = NoSecond write-kinds.ps write-kinds.r write-reads.Post

abbrev pub SzelmikraReadDetermined : Type 0
SzelmikraReadDetermined = NoSecond szelmikra-read-kinds.ps szelmikra-read-kinds.r szelmikra-read-reads.Post

abbrev pub SzelmikraWriteDetermined : Type 0
SzelmikraWriteDetermined = NoSecond szelmikra-write-kinds.ps szelmikra-write-kinds.r szelmikra-write-reads.Post

abbrev pub ShowDetermined : Type 0
ShowDetermined = NoSecond show-kinds.ps show-kinds.r show-reads.Post

-- the name lookup answers a part of what was lent: where it stands and its bytes are determined
abbrev pub NameDetermined : Type 0
NameDetermined =
    (κs : Lfts 2) (a : Dens κs name-kinds.ps) (z z' : (res_t name-kinds.r κs).Denot)
    (left left' : Lasts (ended_of 2 name-kinds.ps name-kinds.r) κs a)
    → name-reads.Post κs a z (at_exit (ended_of 2 name-kinds.ps name-kinds.r) κs a left)
    → name-reads.Post κs a z' (at_exit (ended_of 2 name-kinds.ps name-kinds.r) κs a left')
    → (z.ref_ptr ≡ z'.ref_ptr) × (z.now ≡ z'.now) × (left ≡ left')

-- ---- the forms of a contract

-- an answer, and what is left of what was lent, by a room and an outcome: read and write, and the table
abbrev pub Answered : {A B : Type 0} → ℕ → Outcome (List A) → (Outcome (List A) → B) → Answer → B → Type 0
Answered room o left r b = (r ≡ answer_of room o) × (b ≡ left o)

abbrev pub AnsweredOnce : Type 1
AnsweredOnce = (A B : Type 0) (room : ℕ) (o : Outcome (List A)) (left : Outcome (List A) → B) (r r' : Answer) (b b' : B)
    → Answered room o left r b → Answered room o left r' b' → (r ≡ r') × (b ≡ b')

-- bytes laid over a list
abbrev pub WroteOnce : Type 0
WroteOnce =
    (o : List ℕ) (at : ℕ) (bs o' o'' : List ℕ) (r r' : ℕ) → Wrote o at bs o' r → Wrote o at bs o'' r'
    → (r ≡ r') × (o' ≡ o'')
