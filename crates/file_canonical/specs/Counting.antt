-- The code's form: how many lines the canonical file of a sheet has, line by line of the sheet: where the G record and the last entry's
-- record end tells their lines.
use Rattle.std.specs.Prelude.{false, cond, List, [], ◌∷◌, ℕ, suc, ◌+◌, ◌-◌, ◌*◌, ◌≤◌, length, leb, None, Some}
use Rattle.std.specs.Prelude.{Option}
use Rattle.columns.specs.Format.{text_columns, parameter_columns, most_lines, opening_columns}
use Rattle.values.specs.declared.Value.TheVariants.{Whole}
use Rattle.values.specs.Value.{Item, whole}
use Rattle.records.specs.Flow.{piece, line_count}
use Rattle.records.specs.Written.{copied, piece_end}
use Rattle.cards.specs.declared.Counts.{Counts}
use Rattle.cards.specs.Cards.{counts, total}
use Rattle.sheets.specs.declared.Said.{Said}
use Rattle.sheets.specs.declared.Said.TheVariants.{Start, Global, Entry, Value as Given, Last, Nothing}
use Rattle.sheets.specs.Sheet.{Line, start, global, entry, value, last, none}
use Rattle.file_canonical.specs.declared.Tally.{Tally}

-- the position behind a value's piece at p
unfoldable pub behind : ℕ → ℕ → Item → ℕ
behind w p v = p + length (piece w p v false)

-- how many fields are default between two that are given; each takes a column
abbrev pub skipped : ℕ → ℕ → ℕ
skipped field n = n - suc field

-- a tally by its numbers, in their order
abbrev pub tally : ℕ → ℕ → ℕ → ℕ → ℕ → ℕ → Tally
tally s end field d p at = record { s = s; global = end; field = field; d = d; p = p; at = at }

-- before the first line: the G record's opening has eight columns, and its fields start at 3
abbrev pub begun : Tally
begun = tally 0 opening_columns 2 0 0 0

-- ---- a line more

-- an S line
abbrev pub with_start : Tally → Tally
with_start x = tally (x.s + 1) x.global x.field x.d x.p x.at

-- a G line, field n, and where its value ends
abbrev pub with_global : Tally → ℕ → ℕ → Tally
with_global x n end = tally x.s end n x.d x.p x.at

-- an entry line, and where its type ends; so many lines has the entry before it
abbrev pub with_entry : Tally → ℕ → ℕ → Tally
with_entry x lines end = tally x.s x.global x.field (x.d + 2) (x.p + lines) end

-- a value line, and where its value ends
abbrev pub with_value : Tally → ℕ → Tally
with_value x end = tally x.s x.global x.field x.d x.p end

-- any line
abbrev pub tally_line : Tally → Line → Tally
tally_line x (start t) = with_start x
tally_line x (global n v) = with_global x n (behind text_columns (x.global + skipped x.field n) v)
tally_line x (entry known n f label) =
    with_entry x (line_count parameter_columns x.at) (behind parameter_columns 0 (whole false f.entity.size))
tally_line x (value reference v) = with_value x (behind parameter_columns x.at v)
tally_line x (last n) = x
tally_line x (none b) = x

-- the same by what was read of the line
abbrev pub tally_said : Tally → Said → Tally
tally_said x Start = with_start x
tally_said x (Global n at v) = with_global x n (piece_end text_columns (x.global + skipped x.field n) v)
tally_said x (Entry known n f) =
    with_entry x (line_count parameter_columns x.at) (piece_end parameter_columns 0 (Whole false f.entity.size))
tally_said x (Given reference v) = with_value x (piece_end parameter_columns x.at v)
tally_said x (Last n) = x
tally_said x (Nothing b) = x

-- ---- what they come to

-- the lines of each section: S, G, D, P, and the T line
unfoldable pub counts_in : Tally → Counts
counts_in x = counts x.s (line_count text_columns x.global) x.d (x.p + line_count parameter_columns x.at) 1

-- all of them
unfoldable pub total_in : Tally → ℕ
total_in x = total (counts_in x)

-- the tally of all lines behind a tally
abbrev pub tallied : Tally → List Line → Tally
tallied x [] = x
tallied x (l ∷ ls) = tallied (tally_line x l) ls

-- the counts, if a file may have so many lines
abbrev pub Lines : Type 0
Lines = Option Counts

unfoldable pub within : Tally → Lines
within x = cond (leb (total_in x) most_lines) (Some (counts_in x)) None

-- of all lines
unfoldable pub lines_of_sheet : List Line → Lines
lines_of_sheet ls = within (tallied begun ls)

-- ---- no further than a file goes

-- the columns of the P lines that a file may have; where a value stands behind these is not told
abbrev pub most_columns : ℕ
most_columns = most_lines * parameter_columns

-- the position behind a value line's value, up to there
unfoldable pub behind_value : ℕ → Item → ℕ
behind_value p v = cond (leb p most_columns) (behind parameter_columns p v) p

-- a line too many
abbrev pub full : Tally
full = tally (suc most_lines) 0 0 0 0 0

-- it stands for every tally of too many
unfoldable pub capped : Tally → Tally
capped x = cond (leb (total_in x) most_lines) x full

-- ---- bounds

-- all but the field, which is narrow
pub record Under (b : ℕ) (x : Tally) : Type 0 where
  pub s : x.s ≤ b
  pub global : x.global ≤ b
  pub d : x.d ≤ b
  pub p : x.p ≤ b
  pub at : x.at ≤ b

-- a file may have each of these counts
pub record Few (x : Tally) : Type 0 where
  pub s : x.s ≤ most_lines
  pub g : line_count text_columns x.global ≤ most_lines
  pub d : x.d ≤ most_lines
  pub p : x.p + line_count parameter_columns x.at ≤ most_lines

-- a string that a line says has at most 999 characters
abbrev pub Short : Said → Type 0
Short Start = Unit {0}
Short (Global n at v) = copied v ≤ 999
Short (Entry known n f) = Unit {0}
Short (Given reference v) = copied v ≤ 999
Short (Last n) = Unit {0}
Short (Nothing b) = Unit {0}
