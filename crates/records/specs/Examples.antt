-- Worked examples: texts in lines of w columns, with ',' and ';', and the values that they hold or their refusal; openings; values of
-- Global fields; a record as it is written.
use Rattle.std.specs.Prelude.{◌≡◌, refl, Bool, true, false, List, [], ◌∷◌, map, ℕ, Option, None}
use Prim.Native.String.{String}
use Rattle.columns.specs.declared.Fault.TheVariants.{Spelling, Limit}
use Rattle.columns.specs.Decimal.{dec, last_digits, to_left}
use Rattle.values.specs.Number.{number_of, power_at, power}
use Rattle.values.specs.Head.{head_of}
use Rattle.values.specs.Value.{Item, default, whole, real, text, seen, spelled}
use Rattle.columns.specs.Quoted.{codes}
use Rattle.records.specs.declared.Opening.{Opening}
use Rattle.records.specs.Record.{next_at, value_at, Values, values, wrong, values_from, values_at, trimmed}
use Rattle.records.specs.Flow.{firm, gap, piece, flow, line_count, cut, in_lines}
use Rattle.records.specs.Global.{may_delimit, opens, opened, record_delimiter, opening_of, kind_of, in_range, global_fits}

-- the columns of a line, the text, and its values with the position behind them, or the refusal, where its value starts and where it shows
abbrev records : List (ℕ × String × Values)
records =
    (72, "1, 2.5 ,,3Ha;b;x", values (whole false 1 ∷ (real false 25 true 1 false ∷ (default ∷ (text (codes "a;b") ∷ [])))) 15)
    ∷ (72, "2H;,;", values (text (codes ";,") ∷ []) 5)
    ∷ (72, "12  ,2HAB ,;", values (whole false 12 ∷ (text (codes "AB") ∷ (default ∷ []))) 12)
    ∷ (72, "005HABCDE;", values (text (codes "ABCDE") ∷ []) 10)
    ∷ (72, "0H,;", wrong Spelling 0 1)
    ∷ (72, "000H;", wrong Spelling 0 3)
    ∷ (72, "0005HABCDE;", wrong Spelling 0 4)
    ∷ (72, "1234Habc;", wrong Spelling 0 4)
    ∷ (72, "5HAB", wrong Spelling 0 4)
    ∷ (72, "1E,;", wrong Spelling 0 2)
    ∷ (72, "1e5,;", wrong Spelling 0 1)
    ∷ (72, "1 2,;", wrong Spelling 0 2)
    ∷ (72, "2147483647;", values (whole false 2147483647 ∷ []) 11)
    ∷ (72, " 2147483648 ,;", wrong Limit 1 12)
    ∷ (72, "2147483648 x;", wrong Spelling 0 11)
    ∷ (72, "2147483648 ", wrong Spelling 0 11)
    ∷ (72, "1,2", wrong Spelling 2 3)
    ∷ (72, "", wrong Spelling 0 0)
    ∷ (4, "1,12", wrong Spelling 2 4)
    ∷ (4, "1,123,;", wrong Spelling 2 4)
    ∷ (4, "1,12,;", values (whole false 1 ∷ (whole false 12 ∷ (default ∷ []))) 6)
    ∷ (4, "1,12  ,;", values (whole false 1 ∷ (whole false 12 ∷ (default ∷ []))) 8)
    ∷ (4, "1,1.E5;", wrong Spelling 2 4)
    ∷ (4, "12,-5;", wrong Spelling 3 4)
    ∷ (4, "12,3HABC;", wrong Spelling 3 4)
    ∷ (4, "1,2HAB,3;", values (whole false 1 ∷ (text (codes "AB") ∷ (whole false 3 ∷ []))) 9)
    ∷ []

-- a text and its opening: the delimiters, the position behind it, and whether the record ends there
abbrev openings : List (String × Option Opening)
openings =
    ("1H,,1H;,5HCHAIR;", opens 44 59 8 false)
    ∷ ("1H,,1H;;", opens 44 59 8 true)
    ∷ (",,", opens 44 59 2 false)
    ∷ ("1H;;1H,;", opens 59 44 8 false)
    ∷ (",;", opens 44 59 2 true)
    ∷ ("1H//;", opens 47 59 5 true)
    ∷ ("1H//1H??", opens 47 63 8 true)
    ∷ ("1H;;;", None)
    ∷ ("1H//1H//", None)
    ∷ ("1H++;", None)
    ∷ ("1H  ;", None)
    ∷ ("1H,, 1H;,", None)
    ∷ (" ,,", None)
    ∷ ("        ", None)
    ∷ []

-- a Global field's number, a value, and whether the field may hold it
abbrev globals : List (ℕ × Item × Bool)
globals =
    (3, text (codes "CHAIR"), true)
    ∷ (3, whole false 1, false)
    ∷ (13, real false 1 false 0 false, true)
    ∷ (13, whole false 1, true)
    ∷ (17, whole true 12, true)
    ∷ (19, whole false 0, true)
    ∷ (20, whole false 2147483647, true)
    ∷ (20, text (codes "0"), false)
    ∷ (14, whole false 11, true)
    ∷ (14, whole false 12, false)
    ∷ (14, real false 1 false 0 false, false)
    ∷ (23, default, true)
    ∷ (24, whole true 7, true)
    ∷ (25, default, false)
    ∷ []

-- what is computed is what is expected
pub record Examples : Type 0 where
  pub read : map (λ (e : ℕ × String × Values). values_at e.0 44 59 (codes e.1) 0) records
      ≡ map (λ (e : ℕ × String × Values). e.2) records
  pub opened : map (λ (e : String × Option Opening). opening_of (codes e.0)) openings
      ≡ map (λ (e : String × Option Opening). e.1) openings
  pub fit : map (λ (e : ℕ × Item × Bool). global_fits e.0 (seen e.1)) globals ≡ map (λ (e : ℕ × Item × Bool). e.2) globals
  -- a value that has no room goes to the next line, and so does a count with its H and first character; a string's text flows on
  pub written : in_lines 8
      (flow 8 0 (whole false 116
      ∷ (real false 15 true 1 false ∷ (default ∷ (real true 2 false 0 true ∷ (text (codes "a;,") ∷ []))))))
      ≡ codes "116,    " ∷ (codes "15.E-1,," ∷ (codes "-2.D0,  " ∷ (codes "3Ha;,;  " ∷ [])))
  pub kept : trimmed (default ∷ (whole false 1 ∷ (default ∷ (default ∷ [])))) ≡ default ∷ (whole false 1 ∷ [])

-- all of them
pub examples : Examples
unfolding values_at values_from value_at next_at head_of number_of power_at power may_delimit opened record_delimiter opening_of
    kind_of in_range global_fits in_lines line_count cut to_left flow piece gap firm spelled dec last_digits
examples = record { read = refl; opened = refl; fit = refl; written = refl; kept = refl }
