-- The order of a sheet's lines, and the first wrong line.
use Rattle.std.specs.Prelude.{Bool, cond, not, ◌&&◌, List, [], ◌∷◌, ℕ, ◌+◌, ◌-◌, ◌*◌, ltb, leb, eqb, Result, Ok}
use Rattle.std.specs.Prelude.{Option, Some, None, Err, unwrap_or}
use Rattle.columns.specs.declared.Fault.TheVariants.{SheetLine as WrongSheet}
use Rattle.columns.specs.declared.Signed.{Signed}
use Rattle.columns.specs.declared.SheetLine.{SheetLine}
use Rattle.columns.specs.Refusal.{Outcome, accepted, refused}
use Rattle.values.specs.Value.{is_default}
use Rattle.records.specs.Global.{first_field}
use Rattle.sheets.specs.declared.SheetState.{SheetState}
use Rattle.sheets.specs.Sheet.{Line, start, global, entry, value, last, none, Sheet, lines_in, sheet_of}

abbrev pub sheet_line : ℕ → SheetLine
sheet_line n = record { 0 = n }

-- ---- the state: how far the lines have come

-- its section: no line yet, or that of the last line; they come in this order: S, G, the entries with their values, Z
abbrev pub before_starts : ℕ
before_starts = 0

abbrev pub in_starts : ℕ
in_starts = 1

abbrev pub in_globals : ℕ
in_globals = 2

abbrev pub in_entries : ℕ
in_entries = 3

abbrev pub at_end : ℕ
at_end = 4

-- its field is the last G number: below all of them where there was none yet
abbrev pub no_field : ℕ
no_field = first_field - 1

-- its run is the line of the first of the defaults that the values end with so far, if they do; no entry and no line has come yet
abbrev pub begin : SheetState
begin = record { section = before_starts; field = no_field; entries = 0; run = None; line = 0 }

abbrev pub next : SheetState → ℕ → ℕ → ℕ → Option SheetLine → SheetState
next st section field entries run = record { section = section; field = field; entries = entries; run = run; line = st.line + 1 }

-- ---- what a line does

-- the state after it, or the first wrong line
abbrev pub SheetStep : Type 0
SheetStep = Result SheetState SheetLine

-- the entry count, or the first wrong line
abbrev pub SheetVerdict : Type 0
SheetVerdict = Result ℕ SheetLine

-- this line is the first wrong one
abbrev pub off : SheetState → SheetStep
off st = Err (sheet_line (st.line + 1))

-- the first of a run of defaults is wrong, where there is one
abbrev pub unless : Option SheetLine → SheetStep → SheetStep
unless None x = x
unless (Some n) x = Err n

-- a line that is no value line ends the values before it: they may not end with a default
unfoldable pub closed : SheetState → SheetStep → SheetStep
closed st x = unless st.run x

unfoldable pub start_step : SheetState → SheetStep
start_step st = closed st (cond (leb st.section in_starts) (Ok (next st in_starts st.field st.entries None)) (off st))

-- G numbers rise
unfoldable pub global_step : SheetState → ℕ → SheetStep
global_step st n =
    closed st
    (cond (leb in_starts st.section && (leb st.section in_globals && ltb st.field n))
    (Ok (next st in_globals n st.entries None)) (off st))

-- directory numbers are 1, 3, 5 on
unfoldable pub entry_step : SheetState → Signed → SheetStep
entry_step st x =
    closed st
    (cond (leb in_starts st.section && (leb st.section in_entries && (not x.neg && eqb x.size (2 * st.entries + 1))))
    (Ok (next st in_entries st.field (st.entries + 1) None)) (off st))

unfoldable pub value_step : SheetState → Bool → SheetStep
value_step st default =
    cond (eqb st.section in_entries)
    (Ok (next st in_entries st.field st.entries (cond default (Some (unwrap_or st.run (sheet_line (st.line + 1)))) None)))
    (off st)

-- the entry count
unfoldable pub last_step : SheetState → ℕ → SheetStep
last_step st n =
    closed st
    (cond (leb in_starts st.section && (leb st.section in_entries && eqb n st.entries))
    (Ok (next st at_end st.field st.entries None)) (off st))

unfoldable pub none_step : SheetState → Bool → SheetStep
none_step st b = cond b (off st) (closed st (off st))

abbrev pub step_line : SheetState → Line → SheetStep
step_line st (start t) = start_step st
step_line st (global n v) = global_step st n
step_line st (entry known n x label) = entry_step st n
step_line st (value reference v) = value_step st (is_default v)
step_line st (last n) = last_step st n
step_line st (none b) = none_step st b

abbrev pub verdict : SheetStep → SheetVerdict
verdict (Ok st) = Ok st.entries
verdict (Err n) = Err n

-- the sheet has ended: after Z it is good, else the line after the last is wrong
unfoldable pub finish : SheetState → SheetVerdict
finish st = cond (eqb st.section at_end) (Ok st.entries) (verdict (closed st (off st)))

-- the entry count, or the first wrong line
unfoldable pub go_lines : SheetState → List Line → SheetVerdict
go_lines st [] = finish st
go_lines st (l ∷ ls) = elim (step_line st l) [ Ok st' ↦ go_lines st' ls | Err n ↦ Err n ]

unfoldable pub verdict_of : List ℕ → SheetVerdict
verdict_of t = go_lines begin (lines_in t)

-- 17, at the first wrong line, one past the last if it ends too soon
abbrev pub outcome : Sheet → SheetVerdict → Outcome Sheet
outcome s (Ok n) = accepted s
outcome s (Err n) = refused WrongSheet n.0

-- what a text carries as a sheet
unfoldable pub read_sheet : List ℕ → Outcome Sheet
read_sheet t = outcome (sheet_of (lines_in t)) (verdict_of t)
