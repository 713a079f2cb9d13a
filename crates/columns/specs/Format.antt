-- The numbers of the format, each said once: how many columns and bytes a line has and what stands in them, and the limits.
use Rattle.std.specs.Prelude.{ℕ, ◌*◌}

-- ---- a line

-- columns of a line
abbrev pub line_columns : ℕ
line_columns = 80

-- bytes of a line: its columns and LF
abbrev pub line_bytes : ℕ
line_bytes = 81

-- columns of S and G lines that hold text; the section letter stands behind them
abbrev pub text_columns : ℕ
text_columns = 72

-- columns of P lines that hold values
abbrev pub parameter_columns : ℕ
parameter_columns = 64

-- columns of a directory field, of a label and of a status
abbrev pub field_columns : ℕ
field_columns = 8

-- columns of a sequence number, of a count on T, and of the directory number on a P line
abbrev pub number_columns : ℕ
number_columns = 7

-- columns of the canonical file's Global opening
abbrev pub opening_columns : ℕ
opening_columns = 8

-- ---- limits

-- lines of a file
abbrev pub most_lines : ℕ
most_lines = 200000

-- bytes of a file
abbrev pub most_bytes : ℕ
most_bytes = line_bytes * most_lines

-- the list that knows every type
abbrev pub most_list : ℕ
most_list = 16383

-- the size of an integer
abbrev pub most_integer : ℕ
most_integer = 2147483647
