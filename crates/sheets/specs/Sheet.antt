-- The sheet: lines that end in LF, fields parted by tabs. What a sheet carries, its spelling, and what its lines say.
use Rattle.std.specs.Prelude.{Bool, true, false, cond, not, ◌&&◌, ◌||◌, List, [], ◌∷◌, ◌++◌, ℕ, suc, ◌+◌, ◌-◌}
use Rattle.std.specs.Prelude.{◌*◌, length, Option, Some, None}
use Rattle.std.specs.Prelude.{get_or, take, drop, ltb, leb, eqb}
use Rattle.columns.specs.declared.Signed.{Signed}
use Rattle.columns.specs.Columns.{printable}
use Rattle.columns.specs.Decimal.{dec}
use Rattle.columns.specs.Format.{text_columns}
use Rattle.columns.specs.Letters.{tab, newline, space, letter_e, letter_g, letter_r, letter_s, letter_u, letter_v, letter_z}
use Rattle.values.specs.declared.Value.{Value}
use Rattle.values.specs.Value.{Item, item_of, spelled, is_missing}
use Rattle.values.specs.Strict.{strict_of}
use Rattle.records.specs.Global.{first_field, last_field}
use Rattle.directory.specs.declared.Fields.{Fields}
use Rattle.sheets.specs.declared.EntryLine.{EntryLine}
use Rattle.sheets.specs.declared.Said.{Said}
use Rattle.sheets.specs.declared.Said.TheVariants.{Start, Global, Entry, Value as Given, Last, Nothing}
use Rattle.sheets.specs.Plain.{plain_of, is_plain, sized}
use Rattle.sheets.specs.Line.{run, entry_of, label_of, entry_line}

-- ---- what a sheet carries

-- an entry: whether it is marked E, its numbers and label, and its values, each with whether it is marked R
pub record Row : Type 0 where
  pub known : Bool
  pub fields : Fields
  pub label : List ℕ
  pub values : List (Bool × Item)

-- the start texts, the Global fields that aren't default with their numbers, the entries
pub record Sheet : Type 0 where
  pub starts : List (List ℕ)
  pub globals : List (ℕ × Item)
  pub rows : List Row

-- ---- its lines

pub data Line : Type 0 where
  start : List ℕ → Line
  global : ℕ → Item → Line
  entry : Bool → Signed → Fields → List ℕ → Line
  value : Bool → Item → Line
  last : ℕ → Line
  -- a line that says nothing, and whether it begins as a value line does
  none : Bool → Line

unfoldable pub start_lines : List (List ℕ) → List Line → List Line
start_lines [] rest = rest
start_lines (t ∷ ts) rest = start t ∷ start_lines ts rest

unfoldable pub global_lines : List (ℕ × Item) → List Line → List Line
global_lines [] rest = rest
global_lines (g ∷ gs) rest = global g.0 g.1 ∷ global_lines gs rest

unfoldable pub value_lines : List (Bool × Item) → List Line → List Line
value_lines [] rest = rest
value_lines (v ∷ vs) rest = value v.0 v.1 ∷ value_lines vs rest

-- the entries from the k-th on, and the Z line with the entry count
unfoldable pub row_lines : ℕ → List Row → List Line
row_lines k [] = last k ∷ []
row_lines k (r ∷ rs) = entry r.known (sized false (2 * k + 1)) r.fields r.label ∷ value_lines r.values (row_lines (k + 1) rs)

-- S, G, the entries with their values, Z
unfoldable pub lines_of : Sheet → List Line
lines_of s = start_lines s.starts (global_lines s.globals (row_lines 0 s.rows))

-- ---- their spelling

unfoldable pub line_of : Line → List ℕ
line_of (start t) = letter_s ∷ (tab ∷ t)
line_of (global n v) = letter_g ∷ (tab ∷ (dec n ++ (tab ∷ spelled v)))
line_of (entry known n x label) = entry_line known n.size x label
line_of (value reference v) = cond reference letter_r letter_v ∷ (tab ∷ spelled v)
line_of (last n) = letter_z ∷ (tab ∷ dec n)
line_of (none b) = []

unfoldable pub text_of : List Line → List ℕ
text_of [] = []
text_of (l ∷ ls) = line_of l ++ (newline ∷ text_of ls)

-- the sheet's bytes
unfoldable pub sheet_text : Sheet → List ℕ
sheet_text s = text_of (lines_of s)

-- ---- what a line says: it has one spelling

-- a byte is R or V
unfoldable pub is_mark : ℕ → Bool
is_mark b = eqb b letter_r || eqb b letter_v

-- a line begins with one of them and a tab
unfoldable pub is_value : List ℕ → Bool
is_value l = eqb (get_or l 1 0) tab && is_mark (get_or l 0 0)

-- the line that is read of l: its text, its value or its label stand there
abbrev pub line_from : List ℕ → Said → Line
line_from l Start = start (drop 2 l)
line_from l (Global n at v) = global n (item_of (drop at l) v)
line_from l (Entry known n x) = entry known n x (label_of l)
line_from l (Given reference v) = value reference (item_of (drop 2 l) v)
line_from l (Last n) = last n
line_from l (Nothing b) = none b

-- a start text: plain, at most 72 bytes, no blank at its end
unfoldable pub is_start : List ℕ → Bool
is_start t = leb (length t) text_columns && (not (eqb (get_or t (length t - 1) 0) space) && printable t)

-- S, tab, a start text
unfoldable pub start_line : List ℕ → Said
start_line t = cond (is_start t) Start (Nothing false)

-- a G value that is spelt, and no default
abbrev pub global_of : Bool → ℕ → ℕ → Option Value → Said
global_of good n at None = Nothing false
global_of good n at (Some v) = cond (good && not (is_missing v)) (Global n at v) (Nothing false)

-- a plain number from 3 to 24
unfoldable pub is_field_number : List ℕ → Bool
is_field_number t = is_plain t && (leb first_field (plain_of t) && leb (plain_of t) last_field)

-- with a tab behind it
unfoldable pub is_numbered : List ℕ → Bool
is_numbered t = ltb (run tab t) (length t) && is_field_number (take (run tab t) t)

-- G, tab, a field's number, tab, its value
unfoldable pub global_line : List ℕ → Said
global_line t = global_of (is_numbered t) (plain_of (take (run tab t) t)) (2 + suc (run tab t)) (strict_of (drop (suc (run tab t)) t))

-- E or U, tab, the numbers and the label
abbrev pub entry_line_of : Option EntryLine → Said
entry_line_of (Some r) = Entry r.known r.number r.fields
entry_line_of None = Nothing false

-- a default, or a value
abbrev pub value_of : Bool → Option Value → Said
value_of reference (Some v) = Given reference v
value_of reference None = Nothing true

-- Z, tab, the entry count
unfoldable pub last_line : List ℕ → Said
last_line t = cond (is_plain t) (Last (plain_of t)) (Nothing false)

-- by the line's first byte, S G E U R V Z; the second is a tab, and t is what follows
unfoldable pub by_mark : ℕ → List ℕ → List ℕ → Said
by_mark b l t =
    cond (eqb b letter_s) (start_line t)
    (cond (eqb b letter_g) (global_line t)
    (cond (eqb b letter_e || eqb b letter_u) (entry_line_of (entry_of l))
    (cond (eqb b letter_r) (value_of true (strict_of t))
    (cond (eqb b letter_v) (value_of false (strict_of t))
    (cond (eqb b letter_z) (last_line t) (Nothing false))))))

-- what is read of a line, with where its value stands
unfoldable pub says_of : List ℕ → Said
says_of l = cond (eqb (get_or l 1 0) tab) (by_mark (get_or l 0 0) l (drop 2 l)) (Nothing (is_mark (get_or l 0 0)))

-- what a line says
unfoldable pub said_by : List ℕ → Line
said_by l = line_from l (says_of l)

-- ---- the lines of a text

-- b in front of the first piece
unfoldable pub into : ℕ → List (List ℕ) → List (List ℕ)
into b [] = (b ∷ []) ∷ []
into b (l ∷ ls) = (b ∷ l) ∷ ls

-- the pieces between LFs: one more than there are LFs, the last one empty where the text ends in LF
unfoldable pub pieces_of : List ℕ → List (List ℕ)
pieces_of [] = [] ∷ []
pieces_of (b ∷ bs) = elim (eqb b newline) [ true ↦ [] ∷ pieces_of bs | false ↦ into b (pieces_of bs) ]

-- behind the last LF nothing stands; a piece there says nothing
unfoldable pub last_piece : List ℕ → List Line
last_piece [] = []
last_piece (b ∷ bs) = none (is_mark b) ∷ []

unfoldable pub said_by_all : List (List ℕ) → List Line
said_by_all [] = []
said_by_all (l ∷ ls) = elim ls [ [] ↦ last_piece l | ◌∷◌ m ms ↦ said_by l ∷ said_by_all ls ]

-- what the lines of a text say
unfoldable pub lines_in : List ℕ → List Line
lines_in t = said_by_all (pieces_of t)

-- ---- the sheet of some lines, from the last to the first; values wait for their entry

pub record Parts : Type 0 where
  pub starts : List (List ℕ)
  pub globals : List (ℕ × Item)
  pub values : List (Bool × Item)
  pub rows : List Row

abbrev pub parts : List (List ℕ) → List (ℕ × Item) → List (Bool × Item) → List Row → Parts
parts ss gs vs rs = record { starts = ss; globals = gs; values = vs; rows = rs }

abbrev pub row : Bool → Fields → List ℕ → List (Bool × Item) → Row
row known x label vs = record { known = known; fields = x; label = label; values = vs }

abbrev pub with : Line → Parts → Parts
with (start t) p = parts (t ∷ p.starts) p.globals p.values p.rows
with (global n v) p = parts p.starts ((n, v) ∷ p.globals) p.values p.rows
with (entry known n x label) p = parts p.starts p.globals [] (row known x label p.values ∷ p.rows)
with (value reference v) p = parts p.starts p.globals ((reference, v) ∷ p.values) p.rows
with (last n) p = p
with (none b) p = p

unfoldable pub parts_of : List Line → Parts
parts_of [] = parts [] [] [] []
parts_of (l ∷ ls) = with l (parts_of ls)

unfoldable pub sheet_of : List Line → Sheet
sheet_of ls = record { starts = (parts_of ls).starts; globals = (parts_of ls).globals; rows = (parts_of ls).rows }
