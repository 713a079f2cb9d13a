-- The code's form: the types of a file's entries, read where they stand: what a reference names is told by them.
use Rattle.std.specs.Prelude.{List, map, ℕ, ◌+◌, ◌*◌}
use Rattle.columns.specs.First.{up_from}
use Rattle.columns.specs.Fixed.{signed_of}
use Rattle.directory.specs.Fields.{type_at}
use Rattle.directory.specs.Lines.{number, slot_in, size_of}

-- the type of the entry whose first D line is line k of the file
unfoldable pub type_on : List ℕ → ℕ → ℕ
type_on f k = size_of (signed_of (slot_in f k (number type_at)))

-- that of entry i, from 0: the first entry's first D line is line first, and each entry has two
abbrev pub type_of_entry : List ℕ → ℕ → ℕ → ℕ
type_of_entry f first i = type_on f (first + 2 * i)

-- those of n entries in directory order
unfoldable pub types_at : List ℕ → ℕ → ℕ → List ℕ
types_at f first n = map (type_of_entry f first) (up_from 0 n)
