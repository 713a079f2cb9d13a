-- A list, and which entities it knows.
use Rattle.std.specs.Prelude.{◌≡◌, Bool, true, ◌&&◌, ℕ, ◌/◌, ◌%◌, ◌^◌, eqb, ltb, length}
use Rattle.layouts.specs.Layout.{paper, bit_of}

-- bit k of a list
abbrev pub bit : ℕ → ℕ → Bool
bit k list = eqb (list / 2 ^ k % 2) 1

-- an entity of this type and form is in the list
unfoldable pub known : ℕ → ℕ → ℕ → Bool
known list typ form = ltb (bit_of typ form) (length paper) && bit (bit_of typ form) list

-- every bit of one list is a bit of the other
abbrev pub Inside : ℕ → ℕ → Type 0
Inside list more = (k : ℕ) → bit k list ≡ true → bit k more ≡ true
