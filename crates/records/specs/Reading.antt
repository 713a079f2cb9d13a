-- The code's form: what the code knows besides: where a record stands in its file, the bounds of what is read, and a record's check as the
-- code counts it.
use Rattle.std.specs.Prelude.{◌≡◌, Bool, not, ◌&&◌, List, [], ◌∷◌, ℕ, ◌+◌, ◌*◌, ◌^◌, ◌≤◌, ◌<◌}
use Rattle.std.specs.Prelude.{length, leb, Option, Some, None, Result, Ok, Err}
use Rattle.columns.specs.Format.{line_columns, line_bytes, most_bytes, most_integer}
use Rattle.columns.specs.Letters.{space}
use Rattle.values.specs.declared.Value.{Value}
use Rattle.values.specs.declared.Value.TheVariants.{Default, Whole, Real, Text}
use Rattle.values.specs.Number.{is_digit}
use Rattle.values.specs.Value.{Item}
use Rattle.records.specs.declared.Next.{Next}
use Rattle.records.specs.declared.Next.TheVariants.{Delimiter, Other}
use Rattle.records.specs.declared.Misspelt.{Misspelt}
use Rattle.records.specs.declared.Check.{Check}
use Rattle.records.specs.declared.Opening.{Opening}
use Rattle.records.specs.Record.{Got, miss, Values, values, wrong, trimmed, kept}

-- the first w columns of so many lines stand in the file from base on
pub record Stands (file : List ℕ) (base w lines : ℕ) : Type 0 where
  pub wide : 1 ≤ w
  pub narrow : w ≤ line_columns
  pub size : length file ≤ most_bytes
  pub inside : base + lines * line_bytes ≤ length file

-- where what stands behind the blanks is
abbrev pub place : Next → ℕ
place (Delimiter at last) = at
place (Other at) = at

-- ---- bounds of what is read

-- a value keeps its limits; a string's characters are among the first m of a text
abbrev pub Writable : ℕ → Value → Type 0
Writable m Default = Unit {0}
Writable m (Whole neg size) = size ≤ most_integer
Writable m (Real neg k eneg e double) = (k < 10 ^ 17) × (e ≤ 400)
Writable m (Text start count) = (start + count ≤ m) × (1 ≤ count) × (count ≤ 999)

-- what is read from p on stands behind p in a text of m characters, and the rest is shorter
abbrev pub Sane : ℕ → ℕ → Got → Type 0
Sane p m (Ok r) = (p ≤ r.start) × (r.start < r.next) × (r.next ≤ m) × Writable m r.value
Sane p m (Err r) = (p ≤ r.start) × (r.start ≤ r.at) × (r.at ≤ m)

-- the same of a whole record
abbrev pub SaneCheck : ℕ → ℕ → Result Check Misspelt → Type 0
SaneCheck p m (Ok r) = (1 ≤ r.count) × (r.kept ≤ r.count) × (p + r.count ≤ r.end) × (r.end ≤ m)
SaneCheck p m (Err r) = (p ≤ r.start) × (r.start ≤ r.at) × (r.at ≤ m)

-- the delimiters that an opening names are no blanks and differ; it is m characters long at most
abbrev pub Delimits : ℕ → Option Opening → Type 0
Delimits m (Some o) = (space < o.parameter) × (space < o.closing) × (o.parameter ≡ o.closing → ⊥) × (o.next ≤ m)
Delimits m None = Unit {0}

-- no blank (a line's bytes are 32 to 126) and no digit
abbrev pub sets_apart : ℕ → Bool
sets_apart x = leb 33 x && not (is_digit x)

-- ---- a record's check

-- how many values there are, how many of them are kept, and where the record ends
abbrev pub done_at : ℕ → ℕ → ℕ → Result Check Misspelt
done_at n k end = Ok (record { count = n; kept = k; end = end })

-- the same of what is read
abbrev pub checked : Values → Result Check Misspelt
checked (values vs end) = done_at (length vs) (kept vs) end
checked (wrong fault s at) = Err (miss fault s at)

-- value n comes behind k kept ones
abbrev pub kept_after : Value → ℕ → ℕ → ℕ
kept_after Default k n = k
kept_after (Whole neg size) k n = n
kept_after (Real neg m eneg e double) k n = n
kept_after (Text start count) k n = n

-- how many are kept of n values, k of them so far, and those of vs, which are trimmed
abbrev pub kept_from : ℕ → ℕ → List Item → ℕ
kept_from n k [] = k
kept_from n k (v ∷ vs) = n + length (v ∷ vs)

-- the same behind n values, k of them kept
abbrev pub check_from : ℕ → ℕ → Values → Result Check Misspelt
check_from n k (values vs end) = done_at (n + length vs) (kept_from n k (trimmed vs)) end
check_from n k (wrong fault s at) = Err (miss fault s at)
