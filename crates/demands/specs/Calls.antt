-- A call of reading or writing that has returned, as the function's contract has it: the list, the bytes passed, the lent buffer before,
-- the answer, and the buffer after. It is made from what the functions promise in the source.
use Rattle.std.specs.Prelude.{◌≡◌, List, ℕ, ◌*◌, ◌≤◌, length, take}
use contract.Lifetimes.{Lfts}
use denote.Triple.Clauses.{Lasts, at_exit}
use borrow.Fn.Kinds.{Dens, ended_of}
use Rattle.desk.specs.declared.Answer.{Answer}
use Rattle.desk.specs.Rules.{MeetsRules}
use Rattle.desk.specs.Content.{sheet_by}
use Rattle.read_file.proofs.read.Kinds as read-kinds
use Rattle.read_file.proofs.read.Reads as read-reads
use Rattle.write_sheet.proofs.write.Kinds as write-kinds
use Rattle.write_sheet.proofs.write.Reads as write-reads
use Rattle.szelmikra.proofs.szelmikra_read.Kinds as szelmikra-read-kinds
use Rattle.szelmikra.proofs.szelmikra_read.Reads as szelmikra-read-reads
use Rattle.szelmikra.proofs.szelmikra_write.Kinds as szelmikra-write-kinds
use Rattle.szelmikra.proofs.szelmikra_write.Reads as szelmikra-write-reads

-- of `read_file::read`, or of `szelmikra_read`
pub data ReadCall : ℕ → List ℕ → List ℕ → Answer → List ℕ → Type 0 where
  read : (κs : Lfts 2) (a : Dens κs read-kinds.ps) (z : Answer) (left : Lasts (ended_of 2 read-kinds.ps read-kinds.r) κs a)
      → read-reads.Post κs a z (at_exit (ended_of 2 read-kinds.ps read-kinds.r) κs a left)
      → ReadCall a.0 a.1.0.now a.1.1.0.now z left.1.1.0
  szelmikra_read : (κs : Lfts 2) (a : Dens κs szelmikra-read-kinds.ps) (z : Answer)
      (left : Lasts (ended_of 2 szelmikra-read-kinds.ps szelmikra-read-kinds.r) κs a)
      → szelmikra-read-reads.Post κs a z (at_exit (ended_of 2 szelmikra-read-kinds.ps szelmikra-read-kinds.r) κs a left)
      → ReadCall a.0 a.1.0.now a.1.1.0.now z left.1.1.0

-- of `write_sheet::write`, or of `szelmikra_write`
pub data WriteCall : ℕ → List ℕ → List ℕ → Answer → List ℕ → Type 0 where
  write : (κs : Lfts 2) (a : Dens κs write-kinds.ps) (z : Answer) (left : Lasts (ended_of 2 write-kinds.ps write-kinds.r) κs a)
      → write-reads.Post κs a z (at_exit (ended_of 2 write-kinds.ps write-kinds.r) κs a left)
      → WriteCall a.0 a.1.0.now a.1.1.0.now z left.1.1.0
  szelmikra_write : (κs : Lfts 2) (a : Dens κs szelmikra-write-kinds.ps) (z : Answer)
      (left : Lasts (ended_of 2 szelmikra-write-kinds.ps szelmikra-write-kinds.r) κs a)
      → szelmikra-write-reads.Post κs a z (at_exit (ended_of 2 szelmikra-write-kinds.ps szelmikra-write-kinds.r) κs a left)
      → WriteCall a.0 a.1.0.now a.1.1.0.now z left.1.1.0

-- what an answer tells the length of stands at the start of the buffer
abbrev pub given : Answer → List ℕ → List ℕ
given a s = take a.length s

-- ---- room

-- for the sheet of a file, if it has one
abbrev pub RoomFor : ℕ → List ℕ → List ℕ → Type 0
RoomFor list file o = (r : MeetsRules list file) → length (sheet_by r) ≤ length o

-- so it is wherever reading doesn't answer 16
abbrev pub RoomSeen : Type 0
RoomSeen =
    (list : ℕ) (file o s : List ℕ) (a : Answer) → ReadCall list file o a s → (a.number ≡ 16 → ⊥) → RoomFor list file o
