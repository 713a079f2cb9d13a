-- The code's form: how the canonical file is laid: what a sheet's lines give from a place on, the bytes of each section, and D and P lines
-- turn by turn.
use Rattle.std.specs.Prelude.{◌≡◌, true, List, [], ◌∷◌, ◌++◌, map, ℕ, suc, ◌+◌, ◌-◌, ◌*◌, ◌^◌}
use Rattle.std.specs.Prelude.{◌≤◌, ◌<◌, length, take, drop}
use Rattle.columns.specs.Columns.{joined}
use Rattle.columns.specs.Decimal.{to_left}
use Rattle.columns.specs.Laid.{laid, Wrote}
use Rattle.columns.specs.Format.{line_bytes, text_columns, parameter_columns, field_columns, most_lines}
use Rattle.columns.specs.Letters.{letter_d, letter_p, letter_s, letter_t}
use Rattle.values.specs.Value.{Item}
use Rattle.records.specs.Flow.{line_count}
use Rattle.cards.specs.declared.Counts.{Counts}
use Rattle.cards.specs.Cards.{total}
use Rattle.cards.specs.Written.{line_of, section, totals_of}
use Rattle.directory.specs.declared.Fields.{Fields}
use Rattle.directory.specs.Lines.{entry_lines}
use Rattle.directory.specs.Rules.{ranges_ok}
use Rattle.sheets.specs.Sheet.{Line, start, global, entry, value, last, none, Row, row_lines, lines_in}
use Rattle.sheets_rows.specs.Rows.{lines_at, first_among, behind_of, all_of}
use Rattle.model.specs.Model.{Carried}
use Rattle.model.specs.Canonical.{global_text, directory_lines, parameter_lines}
use Rattle.file_blocks.specs.Blocks.{behind_values, BlockHasRoom, items_first, items_at, globals_first, behind_globals}
use Rattle.file_blocks.specs.Blocks.{global_bytes, record_text, block_lines}
use Rattle.file_canonical.specs.declared.EntryPlace.{EntryPlace}

-- ---- S

-- a start line gives its text
abbrev pub start_given : Line → List (List ℕ)
start_given (start t) = t ∷ []
start_given (global n v) = []
start_given (entry known n x label) = []
start_given (value reference v) = []
start_given (last n) = []
start_given (none b) = []

-- the texts of the start lines that stand first
unfoldable pub starts_first : List Line → List (List ℕ)
starts_first ls = first_among start_given ls

-- the lines behind the start lines that stand first
unfoldable pub behind_starts : List Line → List Line
behind_starts ls = behind_of start_given ls

-- a start line stands at this place and ends at end
pub record StartStands (t : List ℕ) (at end : ℕ) : Type 0 where
  pub low : at + 2 ≤ end
  pub high : end < length t
  pub short : end ≤ at + 2 + text_columns
  pub texts : starts_first (lines_at t at) ≡ take (end - (at + 2)) (drop (at + 2) t) ∷ starts_first (lines_at t (end + 1))
  pub behind : behind_starts (lines_at t at) ≡ behind_starts (lines_at t (end + 1))

-- S lines from number n on
unfoldable pub start_bytes : ℕ → List (List ℕ) → List ℕ
start_bytes n ts = joined (section letter_s n (map (to_left text_columns) ts))

-- ---- D and P

-- an entry of these numbers, label and values
abbrev pub carried : Fields → List ℕ → List Item → Carried
carried x label vs = record { fields = x; label = label; values = vs }

-- an entry line gives its entry: its values stand in the lines behind it
abbrev pub entry_given : Line → List Line → List Carried
entry_given (start t) ls = []
entry_given (global n v) ls = []
entry_given (entry known n x label) ls = carried x label (items_first ls) ∷ []
entry_given (value reference v) ls = []
entry_given (last n) ls = []
entry_given (none b) ls = []

-- the entries in these lines
unfoldable pub entries_in : List Line → List Carried
entries_in ls = all_of entry_given ls

-- those of a text from a place on
abbrev pub entries_at : List ℕ → ℕ → List Carried
entries_at t at = entries_in (lines_at t at)

-- the directory number of entry k, from 0, which is also the number of its first D line
abbrev pub number_of : ℕ → ℕ
number_of k = 2 * k + 1

-- the D lines of entries, the first of them entry k, its P lines from number from on
unfoldable pub directory_bytes : ℕ → ℕ → List Carried → List ℕ
directory_bytes k from es = joined (section letter_d (number_of k) (directory_lines (number_of k) from es))

-- their P lines
unfoldable pub parameter_bytes : ℕ → ℕ → List Carried → List ℕ
parameter_bytes k from es = joined (section letter_p from (parameter_lines (number_of k) es))

-- two writes under way: ds from d on and ps from q on are still to be laid, and what d owes ends before q
pub record Owing (o o' : List ℕ) (d : ℕ) (ds : List ℕ) (q : ℕ) (ps : List ℕ) : Type 0 where
  pub bytes : o ≡ laid (laid o' d ds) q ps
  pub apart : d + length ds ≤ q

-- what is owed for the entries from a place on
abbrev pub OwingAt : List ℕ → List ℕ → List ℕ → EntryPlace → ℕ → Type 0
OwingAt o o' t x k =
    Owing o o' x.d (directory_bytes k x.from.0 (entries_at t x.at)) x.p (parameter_bytes k x.from.0 (entries_at t x.at))

-- all of it laid
abbrev pub both_laid : List ℕ → List ℕ → EntryPlace → ℕ → List ℕ
both_laid o t x k =
    laid (laid o x.d (directory_bytes k x.from.0 (entries_at t x.at))) x.p (parameter_bytes k x.from.0 (entries_at t x.at))

-- the entries from entry k on stand at a place, and their lines have room
pub record Turn (t : List ℕ) (x : EntryPlace) (k : ℕ) : Type 0 where
  pub rows : List Row
  pub lines : lines_at t x.at ≡ row_lines k rows
  pub inside : x.at ≤ length t
  pub apart : x.d + length (directory_bytes k x.from.0 (entries_at t x.at)) ≤ x.p
  pub room : x.p + line_bytes * length (parameter_lines (number_of k) (entries_at t x.at)) ≤ 2 ^ 36
  pub few : x.from.0 + length (parameter_lines (number_of k) (entries_at t x.at)) ≤ 9999999
  pub numbers : 2 * k + 2 * length (entries_at t x.at) ≤ 9999998

-- entry k is laid, and y is where the next one stands
pub record Turned (o t : List ℕ) (x : EntryPlace) (k : ℕ) (o' : List ℕ) (y : EntryPlace) : Type 0 where
  pub next : Turn t y (k + 1)
  pub left : length (entries_at t x.at) ≡ suc (length (entries_at t y.at))
  pub owing : OwingAt (both_laid o t x k) o' t y (k + 1)

-- ---- one entry, whose line ends at end

-- its values
abbrev pub values_behind : List ℕ → ℕ → List Item
values_behind t end = items_at t (end + 1)

-- its P lines
abbrev pub block_count : List ℕ → ℕ → ℕ → ℕ
block_count t end typ = line_count parameter_columns (length (record_text typ (values_behind t end)))

-- its label ends its line
abbrev pub label_before : List ℕ → ℕ → List ℕ
label_before t end = take (end - (end - field_columns)) (drop (end - field_columns) t)

-- its line is whole, and its D and P lines have room where they come
pub record EntryHasRoom (t : List ℕ) (x : EntryPlace) (k end typ : ℕ) : Type 0 where
  pub label : field_columns ≤ end
  pub d : x.d ≤ 2 ^ 36
  pub number : 2 * k + 2 ≤ 9999999
  pub block : BlockHasRoom t (end + 1) x.p typ (number_of k) x.from.0

-- they are laid, and y is where the next entry stands
pub record EntryLaid (o t : List ℕ) (x : EntryPlace) (k end : ℕ) (f : Fields) (o' : List ℕ) (y : EntryPlace) : Type 0 where
  pub wrote :
      Wrote (laid o x.p (joined (section letter_p x.from.0 (block_lines (number_of k) f.entity.size (values_behind t end))))) x.d
      (joined (section letter_d (number_of k) (entry_lines f x.from.0 (block_count t end f.entity.size) (label_before t end)))) o'
      y.d
  pub p : y.p ≡ x.p + line_bytes * block_count t end f.entity.size
  pub from : y.from.0 ≡ x.from.0 + block_count t end f.entity.size
  pub lines : lines_at t y.at ≡ behind_values (lines_at t (end + 1))
  pub inside : y.at ≤ length t

-- ---- the file

-- the G fields and the entries of a sheet's lines
abbrev pub fields_in : List Line → List (ℕ × Item)
fields_in ls = globals_first (behind_starts ls)

-- the S lines and the G lines have room
pub record TextsFit (ls : List Line) (s : ℕ) : Type 0 where
  pub starts : length (starts_first ls) ≡ s
  pub few : s ≤ most_lines
  pub globals : line_count text_columns (length (global_text (fields_in ls))) ≤ most_lines

-- they are laid, and the sheet goes on at next
pub record TextsLaid (o t : List ℕ) (s : ℕ) (o' : List ℕ) (next : ℕ) : Type 0 where
  pub wrote :
      Wrote o 0 (start_bytes 1 (starts_first (lines_in t)) ++ global_bytes (fields_in (lines_in t))) o'
      (line_bytes * (s + line_count text_columns (length (global_text (fields_in (lines_in t))))))
  pub lines : lines_at t next ≡ behind_globals (behind_starts (lines_in t))
  pub inside : next ≤ length t

-- the sections' bytes one behind the other
unfoldable pub file_bytes : List Line → Counts → List ℕ
file_bytes ls c =
    start_bytes 1 (starts_first ls)
    ++ (global_bytes (fields_in ls)
    ++ (directory_bytes 0 1 (entries_in ls)
    ++ (parameter_bytes 0 1 (entries_in ls)
    ++ line_of (totals_of c) letter_t 1)))

-- an entry's numbers keep their ranges (rule 9), so that each has room in its eight columns
abbrev pub Ranged : Row → Type 0
Ranged r = ranges_ok r.fields ≡ true

-- a sheet's lines are in order, with these counts, and the D lines are as wide as they have to be
pub record Ready (ls : List Line) (n : ℕ) (c : Counts) : Type 0 where
  pub few : total c ≤ most_lines
  pub s : length (starts_first ls) ≡ c.s
  pub g : line_count text_columns (length (global_text (fields_in ls))) ≡ c.g
  pub rows : List Row
  pub lines : behind_globals (behind_starts ls) ≡ row_lines 0 rows
  pub entries : entries_in (behind_globals (behind_starts ls)) ≡ entries_in ls
  pub count : length (entries_in ls) ≡ n
  pub d : length (directory_bytes 0 1 (entries_in ls)) ≡ line_bytes * c.d
  pub two : c.d ≡ 2 * n
  pub p : length (parameter_lines 1 (entries_in ls)) ≡ c.p
