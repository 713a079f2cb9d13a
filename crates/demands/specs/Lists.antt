-- Demand 3 over the functions: one file read under two lists, one inside the other, and each sheet written back with its own list.
use Rattle.std.specs.Prelude.{◌≡◌, List, ◌⊎◌, ℕ, ◌≤◌, length}
use Rattle.columns.specs.declared.Fault.{Fault}
use Rattle.columns.specs.Refusal.{number}
use Rattle.columns.specs.Format.{most_bytes}
use Rattle.layouts.specs.Larger.{Late}
use Rattle.sheets.specs.Sheet.{Sheet, sheet_text}
use Rattle.desk.specs.declared.Answer.{Answer}
use Rattle.desk.specs.Answers.{answer}
use Rattle.desk.specs.Demands.{OneInside, SheetsAlike, EarlierEntry}
use Rattle.demands.specs.Calls.{ReadCall, WriteCall, given, RoomFor}
use Rattle.demands.specs.Letters.{LettersOnly}

-- two texts are two sheets that differ only in the letters that mark an entity only the larger list knows, and its references
pub record TextsAlike (small large : ℕ) (s t : List ℕ) : Type 0 where
  pub letters : LettersOnly s t
  pub small_sheet : Sheet
  pub large_sheet : Sheet
  pub small_text : s ≡ sheet_text small_sheet
  pub large_text : t ≡ sheet_text large_sheet
  pub alike : SheetsAlike small large small_sheet large_sheet

-- a, b. If the larger list answers 0, so does the smaller, if there is room for as many bytes, and with the same length; the two buffers
-- differ only in marks
abbrev pub SmallerReads : Type 0
SmallerReads = (small large : ℕ) → OneInside small large → (file o s o' s' : List ℕ) (a a' : Answer)
    → ReadCall large file o a s → a.number ≡ 0
    → ReadCall small file o' a' s' → a.length ≤ length o'
    → (a' ≡ a) × TextsAlike small large (given a' s') (given a s)

-- c. The two sheets, each written back with its own list and room enough, give the same answer 0 and the same bytes, or 19 each
abbrev pub SameWritten : Type 0
SameWritten = (small large : ℕ) → OneInside small large → (file o s o' s' w t w' t' : List ℕ) (a a' b b' : Answer)
    → ReadCall large file o a s → a.number ≡ 0
    → ReadCall small file o' a' s' → a.length ≤ length o'
    → WriteCall large (given a s) w b t → most_bytes ≤ length w
    → WriteCall small (given a' s') w' b' t' → most_bytes ≤ length w'
    → ((b.number ≡ 0) × (b' ≡ b) × (given b' t' ≡ given b t)) ⊎ ((b ≡ answer 19 0 0) × (b' ≡ answer 19 0 0))

-- 14 or 15 at an earlier entry than the one of the smaller list's refusal
pub record EarlierAnswer (small large : ℕ) (file : List ℕ) (a a' : Answer) : Type 0 where
  pub n : Fault
  pub p : ℕ
  pub smaller : a ≡ answer (number n) p 0
  pub m : Fault
  pub q : ℕ
  pub larger : a' ≡ answer (number m) q 0
  pub late : Late m
  pub entry : EarlierEntry small large file n p m q

-- d. If the smaller list refuses, the larger gives the same answer, or 14 or 15 at an earlier entry: of a file and a smaller list's buffer
-- of which this holds, whatever the larger list's buffer is
abbrev pub LargerAnswersIf : (ℕ → List ℕ → List ℕ → Type 0) → Type 0
LargerAnswersIf Holds = (small large : ℕ) → OneInside small large → (file o s o' s' : List ℕ) (a a' : Answer)
    → ReadCall small file o a s → (a.number ≡ 0 → ⊥) → Holds small file o
    → ReadCall large file o' a' s'
    → (a' ≡ a) ⊎ EarlierAnswer small large file a a'

-- with room enough it is so
abbrev pub LargerAnswers : Type 0
LargerAnswers = LargerAnswersIf RoomFor

-- and without it is not (`NoRoom`)
abbrev pub RoomNeeded : Type 0
RoomNeeded = LargerAnswersIf (λ list file o. Unit {0}) → ⊥
