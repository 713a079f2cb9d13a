-- What the entry points answer, and what they leave in what was lent to them.
use Rattle.std.specs.Prelude.{cond, ◌&&◌, List, [], ◌∷◌, ◌++◌, ℕ, ◌+◌, ◌*◌, ◌/◌, ◌%◌, length, take, drop}
use Rattle.std.specs.Prelude.{leb, ltb, eqb}
use Rattle.columns.specs.declared.Fault.TheVariants.{ListOrLength, Room}
use Rattle.columns.specs.Refusal.{Outcome, accepted, refused, demand, number, ◌then◌}
use Rattle.columns.specs.Columns.{blank}
use Rattle.columns.specs.Decimal.{dec}
use Rattle.columns.specs.Laid.{laid}
use Rattle.columns.specs.Format.{line_bytes, field_columns, most_list}
use Rattle.columns.specs.Letters.{tab, newline, letter_x}
use Rattle.cards.specs.Cards.{entry_line}
use Rattle.directory.specs.Fields.{named, entry_of}
use Rattle.directory.specs.Lines.{parameter_line, slots, slots_a_line, seek, label}
use Rattle.layouts.specs.Known.{known}
use Rattle.desk.specs.declared.Answer.{Answer}
use Rattle.desk.specs.declared.Record.{Record}
use Rattle.model.specs.Model.{type_of}
use Rattle.model.specs.Read.{Before, Listed, before, read_model, reads}

-- ---- read and write: 16 if the buffer is too short, after all other refusals

-- number, place, length
abbrev pub answer : ℕ → ℕ → ℕ → Answer
answer n place len = record { number = n; place = place; length = len }

-- with room for so many: success returns 0 and the length; 16 the length that is needed; any other refusal number and place
unfoldable pub answer_of : {A : Type 0} → ℕ → Outcome (List A) → Answer
answer_of room (accepted bs) = answer (cond (leb (length bs) room) 0 (number Room)) 0 (length bs)
answer_of room (refused n place) = answer (number n) place 0

-- bytes past the length are untouched, on a refusal all
unfoldable pub left_in : List ℕ → Outcome (List ℕ) → List ℕ
left_in out (accepted bs) = cond (leb (length bs) (length out)) (laid out 0 bs) out
left_in out (refused n place) = out

-- ---- the directory table: one slot an entry; filled exactly if reading accepts the file

-- the record of an entry under a list: its entry line's fields, where n is its directory number, its parameter pointer and line count
abbrev pub record_of : ℕ → ℕ → Listed → Record
record_of list n e = record {
  known = known list (type_of e.fields) e.fields.form.size;
  number = named n;
  entry = entry_of e.fields;
  label = e.label;
  pointer = parameter_line e.pointer;
  lines = e.lines;
}

-- those of the entries from the k-th on
unfoldable pub records_from : ℕ → ℕ → List Listed → List Record
records_from list k [] = []
records_from list k (e ∷ es) = record_of list (2 * k + 1) e ∷ records_from list (k + 1) es

-- the records of a file that reading accepts
unfoldable pub listed_in : ℕ → List ℕ → Outcome (List Record)
listed_in list f = read_model list f then λ _. before f then λ b. accepted (records_from list 0 b.listed)

-- slots past the entries stay, on a refusal all
unfoldable pub slots_left : List Record → Outcome (List Record) → List Record
slots_left table (accepted rs) = cond (leb (length rs) (length table)) (rs ++ drop (length rs) table) table
slots_left table (refused n place) = table

-- ---- the name to show: the label columns where they stand in the file, or the stand-in where those are blank

-- what is shown
pub data Shown : Type 0 where
  -- the eight bytes of the file from here on
  label_from : ℕ → Shown
  stand_in : Shown
  -- the empty part at the stand-in's start
  nothing : Shown

-- where the label columns of the entry stand whose first D line is line k of the file
abbrev pub label_byte : ℕ → ℕ
label_byte k = line_bytes * (k + seek label slots / slots_a_line) + field_columns * (seek label slots % slots_a_line)

-- the label from this byte on, or the stand-in if it is blank
abbrev pub label_or : List ℕ → ℕ → Shown
label_or f at = cond (blank (take field_columns (drop at f))) stand_in (label_from at)

-- a directory number names an entry if it is odd and in the file
abbrev pub name_in : List ℕ → ℕ → Before → Shown
name_in f n b = cond (eqb (n % 2) 1 && ltb (n / 2) (length b.listed)) (label_or f (label_byte (entry_line b.counts (n / 2)))) nothing

-- a refused file shows nothing
abbrev pub by_reading : List ℕ → ℕ → Outcome Before → Shown
by_reading f n (accepted b) = name_in f n b
by_reading f n (refused m place) = nothing

-- a file that is refused by 1 to 15 has no names
unfoldable pub shown : ℕ → List ℕ → ℕ → Shown
shown list f n = by_reading f n (read_model list f then λ _. before f)

-- ---- igsheet: at most 65,448 bytes in, at most 65,536 out, under the list of all types

-- 808 lines
abbrev pub most_input : ℕ
most_input = 65448

-- the buffer for the sheet
abbrev pub most_output : ℕ
most_output = 65536

-- the sheet; or X, number, place, parted by tabs, then LF
abbrev pub printed : Outcome (List ℕ) → List ℕ
printed (accepted s) = s
printed (refused n place) = letter_x ∷ (tab ∷ (dec (number n) ++ (tab ∷ (dec place ++ (newline ∷ [])))))

-- 1 or 16 by these limits
unfoldable pub within_limits : List ℕ → Outcome (List ℕ)
within_limits input =
    demand (leb (length input) most_input) ListOrLength 0
    then λ _. reads most_list input
    then λ s. demand (leb (length s) most_output) Room 0
    then λ _. accepted s

-- what the program prints
unfoldable pub igsheet : List ℕ → List ℕ
igsheet input = printed (within_limits input)
