-- A record's text, character by character and line by line, where it stands in its file. Assumes nothing.
use mathlib.Core.Path.{◌≡◌}
use mathlib.Core.List.{List}
use Prim.Native.Nat.{ℕ, ◌+◌, ◌-◌, ◌*◌, ◌/◌, ◌%◌, ◌≤◌, ◌<◌}
use native.Mathlib.Nat.{mul-le-mul_left}
use native.Mathlib.Omega.{arith}
use lib.ListN.{length, get_or, drop, take}
use Rattle.columns.specs.Columns.{text_of}
use Rattle.columns.proofs.Text.{length-text as text-length, text_column, rest_in_file, rest_in_text, text_rest, text_char, text-end}
use Rattle.records.specs.Reading.{Stands}

module _ (file : List ℕ) (base w lines : ℕ) (st : Stands file base w lines) where
  narrow : w ≤ 81
  narrow = omega (arith, st.narrow)

  pub length-text : length (text_of file base w lines) ≡ lines * w
  length-text = text-length file base w lines st.wide narrow st.inside

  pub small : lines * w ≤ 16000000
  small = omega (arith, mul-le-mul_left lines st.narrow)

  module _ (p : ℕ) (h : p < lines * w) where
    pub column : p % w < w
    column = text_column file base w lines st.wide narrow st.inside p h

    -- the rest of p's line ends within the file
    pub index : base + p / w * 81 + p % w + (w - p % w) ≤ length file
    index = rest_in_file file base w lines st.wide narrow st.inside p h

    -- and within the text
    pub rest_in : p + (w - p % w) ≤ lines * w
    rest_in = rest_in_text file base w lines st.wide narrow st.inside p h

    pub rest_of : take (w - p % w) (drop p (text_of file base w lines)) ≡ take (w - p % w) (drop (base + p / w * 81 + p % w) file)
    rest_of = text_rest file base w lines st.wide narrow st.inside p h

    pub char_of : get_or (text_of file base w lines) p 0 ≡ get_or file (base + p / w * 81 + p % w) 0
    char_of = text_char file base w lines st.wide narrow st.inside p h

  pub char_end : (p : ℕ) → lines * w ≤ p → get_or (text_of file base w lines) p 0 ≡ 0
  char_end p h = text-end file base w lines st.wide narrow st.inside p h
