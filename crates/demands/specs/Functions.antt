-- Demand 2 over the functions: which files and sheets are answered with 0, and with what; and a file read, its sheet written, and what
-- was written read again. Apart from the two calls (`Calls`) only lists, bytes, rooms, answers and the rules of a file are spoken of.
use Rattle.std.specs.Prelude.{◌≡◌, List, [], ◌⊎◌, ℕ, ◌≤◌, ◌<◌, length, drop}
use Rattle.columns.specs.Format.{most_lines, most_bytes}
use Rattle.model.specs.Canonical.{line_total, canonical}
use Rattle.desk.specs.declared.Answer.{Answer}
use Rattle.desk.specs.Answers.{answer}
use Rattle.desk.specs.Words.{Iff}
use Rattle.desk.specs.Rules.{MeetsRules}
use Rattle.desk.specs.Demands.{described}
use Rattle.desk.specs.Content.{sheet_by}
use Rattle.demands.specs.Calls.{ReadCall, WriteCall, given, RoomFor}

-- ---- what is accepted

-- "a file is accepted exactly if it meets those rules": with room enough the answer is 0
abbrev pub ReadsExactly : Type 0
ReadsExactly = (list : ℕ) (file o s : List ℕ) (a : Answer)
    → ReadCall list file o a s → RoomFor list file o
    → Iff (a.number ≡ 0) (MeetsRules list file)

-- "follow IGES 4.0 as document 01 states it": with room enough the length is that of the sheet of what the file carries, which stands in
-- the buffer. So no length is invented.
abbrev pub SheetTold : Type 0
SheetTold = (list : ℕ) (file o s : List ℕ) (a : Answer)
    → ReadCall list file o a s → (r : MeetsRules list file) → length (sheet_by r) ≤ length o
    → (a ≡ answer 0 0 (length (sheet_by r))) × (given a s ≡ sheet_by r)

-- "a sheet is accepted exactly if the canonical file it describes keeps to that limit and reads back as that sheet"; that file is then in
-- the buffer
abbrev pub WritesExactly : Type 0
WritesExactly = (list : ℕ) (sheet o s o' s' : List ℕ) (a a' : Answer)
    → WriteCall list sheet o a s → most_bytes ≤ length o
    → ReadCall list (canonical (described sheet)) o' a' s' → length sheet ≤ length o'
    → Iff (a.number ≡ 0) ((line_total (described sheet) ≤ most_lines) × (a'.number ≡ 0) × (given a' s' ≡ sheet))
    × (a.number ≡ 0 → given a s ≡ canonical (described sheet))

-- ---- read, write, read

-- With room enough: a file that is read, its sheet written, and what was written read again, under one list. The writer accepts, and the
-- second reading has the answer and the bytes of the first; or the writer refuses by 19, since the file would be too long.
abbrev pub ReadWriteRead : Type 0
ReadWriteRead = (list : ℕ) (file o s o' s' o'' s'' : List ℕ) (a a' a'' : Answer)
    → ReadCall list file o a s → a.number ≡ 0
    → WriteCall list (given a s) o' a' s' → most_bytes ≤ length o'
    → ReadCall list (given a' s') o'' a'' s'' → a.length ≤ length o''
    → ((a'.number ≡ 0) × (a'' ≡ a) × (given a'' s'' ≡ given a s)) ⊎ (a' ≡ answer 19 0 0)

-- With whatever room: a sheet that was read is accepted, or there is no room for its file, of which 16,200,000 bytes are enough, or that
-- file is too long.
abbrev pub SheetWritten : Type 0
SheetWritten = (list : ℕ) (file o s o' s' : List ℕ) (a a' : Answer)
    → ReadCall list file o a s → a.number ≡ 0
    → WriteCall list (given a s) o' a' s'
    → (a'.number ≡ 0) ⊎ (((a'.number ≡ 16) × (length o' < a'.length) × (a'.length ≤ most_bytes))
    ⊎ (a' ≡ answer 19 0 0))

-- Of any sheet: what is written of it is read back as it, if there is room for it.
abbrev pub WrittenRead : Type 0
WrittenRead = (list : ℕ) (sheet o s o' s' : List ℕ) (a a' : Answer)
    → WriteCall list sheet o a s → a.number ≡ 0
    → ReadCall list (given a s) o' a' s' → length sheet ≤ length o'
    → (a' ≡ answer 0 0 (length sheet)) × (given a' s' ≡ sheet)

-- And that sheet is written to the same file again.
abbrev pub WriteReadWrite : Type 0
WriteReadWrite = (list : ℕ) (sheet o s o' s' o'' s'' : List ℕ) (a a' a'' : Answer)
    → WriteCall list sheet o a s → a.number ≡ 0
    → ReadCall list (given a s) o' a' s' → length sheet ≤ length o'
    → WriteCall list (given a' s') o'' a'' s'' → a.length ≤ length o''
    → (a'' ≡ a) × (given a'' s'' ≡ given a s)

-- ---- what every call leaves alone, and what it tells of room

-- of a buffer before and after, and the answer
pub record KeptRest (o : List ℕ) (a : Answer) (s : List ℕ) : Type 0 where
  -- accepted: the length is within the buffer, and all bytes past it stay
  pub accepted : a.number ≡ 0 → (a.length ≤ length o) × (drop a.length s ≡ drop a.length o)
  -- refused: all bytes stay
  pub refused : (a.number ≡ 0 → ⊥) → s ≡ o
  -- 16: the length that is needed is more than there is; any other refusal tells none
  pub no_room : a.number ≡ 16 → length o < a.length
  pub no_length : (a.number ≡ 0 → ⊥) → (a.number ≡ 16 → ⊥) → a.length ≡ 0

-- a function as its calls have it: list, bytes passed, the lent buffer before, the answer, the buffer after
abbrev pub Calls : Type 1
Calls = ℕ → List ℕ → List ℕ → Answer → List ℕ → Type 0

abbrev pub KeepsRest : Calls → Type 0
KeepsRest Call = (list : ℕ) (bytes o s : List ℕ) (a : Answer) → Call list bytes o a s → KeptRest o a s

-- Asked once with too little room, or none, and then with as much as it told, it accepts, with that length; any other refusal is the
-- same with any room.
abbrev pub AskedFirst : Calls → Type 0
AskedFirst Call = (list : ℕ) (bytes o s o' s' : List ℕ) (a a' : Answer)
    → Call list bytes o a s → (a.number ≡ 0 → ⊥)
    → Call list bytes o' a' s'
    → ((a.number ≡ 16) × (a.length ≤ length o' → a' ≡ answer 0 0 a.length)) ⊎ (a' ≡ a)

-- Neither a sheet nor a file is empty: with no room nothing is accepted.
abbrev pub NoneForNothing : Calls → Type 0
NoneForNothing Call = (list : ℕ) (bytes s : List ℕ) (a : Answer) → Call list bytes [] a s → a.number ≡ 0 → ⊥
