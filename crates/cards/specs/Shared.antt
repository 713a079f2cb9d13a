-- What every crate that names a line of a file wants.
use Rattle.std.specs.Prelude.{ℕ}
use Rattle.columns.specs.declared.FileLine.{FileLine}

-- the line with this number, counted from 1; 0 is none
abbrev pub file_line : ℕ → FileLine
file_line k = record { 0 = k }
