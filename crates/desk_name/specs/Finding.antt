-- The code's form: the name to show as it is looked up, by the counts of a file that was accepted.
use Rattle.std.specs.Prelude.{cond, ◌&&◌, List, ℕ, ◌+◌, ◌/◌, ◌%◌, ◌≤◌, ltb, eqb}
use Rattle.columns.specs.Format.{field_columns, most_bytes}
use Rattle.cards.specs.declared.Counts.{Counts}
use Rattle.cards.specs.Cards.{entry_line, entries}
use Rattle.desk.specs.Answers.{Shown, label_from, stand_in, nothing, label_byte, label_or}
use Rattle.desk_name.specs.declared.Found.{Found}
use Rattle.desk_name.specs.declared.Found.TheVariants.{Label, Blank, Nobody}

-- the name of an entry by its directory number, in a file with these counts
unfoldable pub name_with : List ℕ → ℕ → Counts → Shown
name_with f n c = cond (eqb (n % 2) 1 && ltb (n / 2) (entries c)) (label_or f (label_byte (entry_line c (n / 2)))) nothing

-- as the code has it
abbrev pub found_of : Shown → Found
found_of (label_from at) = Label at
found_of stand_in = Blank
found_of nothing = Nobody

-- a label stands in a file of this length, which has at most 200,000 lines
abbrev pub Inside : ℕ → Found → Type 0
Inside size (Label at) = (at + field_columns ≤ size) × (at ≤ most_bytes)
Inside size Blank = Unit {0}
Inside size Nobody = Unit {0}
