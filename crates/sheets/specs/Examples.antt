-- Worked examples: sheets, in whose texts > is a tab and | is LF.
use Rattle.std.specs.Prelude.{◌≡◌, refl, true, false, cond, List, [], ◌∷◌, map, ℕ, eqb, Err, Ok}
use Prim.Native.Char.{code}
use Prim.Native.String.{String, [] as []ˢ, ◌∷◌ as ◌∷ˢ◌}
use Rattle.columns.specs.Columns.{printable, same_bytes}
use Rattle.columns.specs.Decimal.{last_digits, dec, signed_dec, to_right}
use Rattle.columns.specs.Refusal.{accepted}
use Rattle.values.specs.Number.{power, power_at, number_of}
use Rattle.values.specs.Head.{head_of}
use Rattle.values.specs.Value.{real, text, spelled}
use Rattle.values.specs.Strict.{strict_of}
use Rattle.directory.specs.Fields.{nought, fields_of}
use Rattle.sheets.specs.Plain.{sized, is_plain, is_signed, signed_number, all_digits, is_status, status_number}
use Rattle.sheets.specs.Line.{run, is_label, is_entry_number, entry_number, numbers_of, entry_of, label_of, spell, spells, entry_line}
use Rattle.sheets.specs.Sheet.{row, Sheet, start_lines, global_lines, value_lines, row_lines, lines_of, line_of, text_of, sheet_text}
use Rattle.sheets.specs.Sheet.{is_mark, is_start, start_line, is_field_number, is_numbered, global_line, last_line, by_mark}
use Rattle.sheets.specs.Sheet.{says_of, said_by}
use Rattle.sheets.specs.Sheet.{into, pieces_of, last_piece, said_by_all, lines_in, parts_of, sheet_of}
use Rattle.sheets.specs.Order.{sheet_line, closed, start_step, global_step, entry_step, value_step, last_step, none_step, finish}
use Rattle.sheets.specs.Order.{go_lines, SheetVerdict}
use Rattle.sheets.specs.Order.{verdict_of, read_sheet}

abbrev byte : ℕ → ℕ
byte c = cond (eqb c 62) 9 (cond (eqb c 124) 10 c)

abbrev bytes : String → List ℕ
bytes []ˢ = []
bytes (c ∷ˢ s) = byte (code c) ∷ bytes s

abbrev plain : String → List ℕ
plain []ˢ = []
plain (c ∷ˢ s) = code c ∷ plain s

abbrev wrong : ℕ → SheetVerdict
wrong n = Err (sheet_line n)

abbrev chair_text : String
chair_text = "S>SET PIECE|G>3>5HCHAIR|G>4>7Hset.igs|E>1>116>0>0>0>0>0>0>0>01000000>0>0>0>   PIN01|V>15.E-1|V>0.|V>2.|Z>1|"

-- a text and its verdict: the entry count, or the first wrong line
abbrev table : List (String × SheetVerdict)
table =
    (chair_text, Ok 1)
    -- at least one S line; S, tab, nothing is good; a trailing blank is wrong; one past the last if the sheet ends too soon
    ∷ ("S>|Z>0|", Ok 0)
    ∷ ("", wrong 1)
    ∷ ("S>A|", wrong 2)
    ∷ ("Z>0|", wrong 1)
    ∷ ("S>A |Z>0|", wrong 1)
    -- a piece with no LF, and anything after the Z line
    ∷ ("S>A|Z>0", wrong 2)
    ∷ ("S>A|Z>0|Z>0|", wrong 3)
    ∷ ("S>A|Z>1|", wrong 2)
    ∷ ("S>A|Z>00|", wrong 2)
    -- G numbers are 3 to 24 and rise; a default is wrong, and so is any other spelling of a value
    ∷ ("S>A|G>4>1|G>3>1|Z>0|", wrong 3)
    ∷ ("S>A|G>3>|Z>0|", wrong 2)
    ∷ ("S>A|G>25>1|Z>0|", wrong 2)
    ∷ ("S>A|G>03>1|Z>0|", wrong 2)
    ∷ ("S>A|G>7>+5|Z>0|", wrong 2)
    ∷ ("S>A|G>7>05|Z>0|", wrong 2)
    ∷ ("S>A|G>7>-0|Z>0|", wrong 2)
    ∷ ("S>A|G>7>1.5|Z>0|", wrong 2)
    ∷ ("S>A|G>7>1.E0|Z>0|", wrong 2)
    ∷ ("S>A|G>7>10.|Z>0|", wrong 2)
    ∷ ("S>A|G>7>0.E5|Z>0|", wrong 2)
    ∷ ("S>A|G>7>2147483648|Z>0|", wrong 2)
    ∷ ("S>A|G>3>2HABC|Z>0|", wrong 2)
    -- the numbers of an entry line
    ∷ ("S>A|U>1>116>-1>0>0>0>0>0>0>00000000>0>0>-7>        |V>|R>1|Z>1|", Ok 1)
    ∷ ("S>A|U>1>116>-0>0>0>0>0>0>0>00000000>0>0>0>        |Z>1|", wrong 2)
    ∷ ("S>A|U>1>116>00>0>0>0>0>0>0>00000000>0>0>0>        |Z>1|", wrong 2)
    ∷ ("S>A|U>1>116>+1>0>0>0>0>0>0>00000000>0>0>0>        |Z>1|", wrong 2)
    ∷ ("S>A|U>1>2147483647>0>0>0>0>0>0>0>00000000>0>0>0>        |Z>1|", Ok 1)
    ∷ ("S>A|U>1>2147483648>0>0>0>0>0>0>0>00000000>0>0>0>        |Z>1|", wrong 2)
    ∷ ("S>A|U>1>116>0>0>0>0>0>0>0>0000000>0>0>0>        |Z>1|", wrong 2)
    ∷ ("S>A|U>1>116>0>0>0>0>0>0>0>000000000>0>0>0>        |Z>1|", wrong 2)
    ∷ ("S>A|U>1>116>0>0>0>0>0>0>0>0000000A>0>0>0>        |Z>1|", wrong 2)
    ∷ ("S>A|U>1>>0>0>0>0>0>0>0>00000000>0>0>0>        |Z>1|", wrong 2)
    -- eight bytes of label, fifteen fields, directory numbers 1, 3, 5 on
    ∷ ("S>A|U>1>116>0>0>0>0>0>0>0>00000000>0>0>0>       |Z>1|", wrong 2)
    ∷ ("S>A|U>1>116>0>0>0>0>0>0>0>00000000>0>0>0>        >|Z>1|", wrong 2)
    ∷ ("S>A|U>3>116>0>0>0>0>0>0>0>00000000>0>0>0>        |Z>1|", wrong 2)
    ∷ ("S>A|U>-1>116>0>0>0>0>0>0>0>00000000>0>0>0>        |Z>1|", wrong 2)
    -- where values end with defaults the first of them is wrong, also at the end of the sheet
    ∷ ("S>A|U>1>116>0>0>0>0>0>0>0>00000000>0>0>0>        |V>1|V>|V>|Z>1|", wrong 4)
    ∷ ("S>A|U>1>116>0>0>0>0>0>0>0>00000000>0>0>0>        |V>1|V>|V>|", wrong 4)
    ∷ ("S>A|U>1>116>0>0>0>0>0>0>0>00000000>0>0>0>        |V>1|V>|V>|Q", wrong 4)
    ∷ ("S>A|U>1>116>0>0>0>0>0>0>0>00000000>0>0>0>        |V>1|V>|V>|V", wrong 6)
    ∷ ("S>A|V>1|Z>0|", wrong 2)
    ∷ []

pub examples : map (λ (e : String × SheetVerdict). verdict_of (bytes e.0)) table ≡ map (λ (e : String × SheetVerdict). e.1) table
unfolding printable same_bytes last_digits dec power power_at number_of head_of spelled strict_of is_plain is_signed signed_number
    all_digits is_status status_number run is_label is_entry_number entry_number numbers_of entry_of label_of is_mark is_start
    start_line is_field_number is_numbered global_line last_line by_mark says_of said_by into pieces_of last_piece said_by_all
    lines_in closed start_step global_step entry_step value_step last_step none_step finish go_lines verdict_of
examples = refl

-- the chair's sheet: one entry of type 116
unfoldable pub chair : Sheet
chair = record {
  starts = plain "SET PIECE" ∷ [];
  globals = (3, text (plain "CHAIR")) ∷ (4, text (plain "set.igs")) ∷ [];
  rows =
      row true (fields_of (sized false 116 ∷ nought ∷ nought ∷ nought ∷ nought ∷ nought ∷ nought ∷ nought
      ∷ sized false 1000000 ∷ [])) (plain "   PIN01")
      ((false, real false 15 true 1 false) ∷ (false, real false 0 false 0 false) ∷ (false, real false 2 false 0 false) ∷ [])
      ∷ [];
}

pub chair-text : sheet_text chair ≡ bytes chair_text
unfolding chair last_digits dec signed_dec to_right spelled spell spells entry_line start_lines global_lines value_lines row_lines
    lines_of line_of text_of sheet_text
chair-text = refl

pub chair-read : read_sheet (bytes chair_text) ≡ accepted chair
unfolding chair printable same_bytes last_digits dec power power_at number_of head_of spelled strict_of is_plain is_signed
    signed_number all_digits is_status status_number run is_label is_entry_number entry_number numbers_of entry_of label_of
    is_mark is_start start_line is_field_number is_numbered global_line last_line by_mark says_of said_by into pieces_of
    last_piece said_by_all lines_in parts_of sheet_of closed start_step global_step entry_step value_step last_step none_step
    finish go_lines verdict_of read_sheet
chair-read = refl
