-- The numbers of an entry, and what they mean.
use Rattle.std.specs.Prelude.{true, false, cond, List, [], ◌∷◌, ℕ, get_or}
use Rattle.columns.specs.declared.Signed.{Signed}
use Rattle.columns.specs.declared.DirectoryNumber.{DirectoryNumber}
use Rattle.columns.specs.Fixed.{signed}
use Rattle.directory.specs.declared.Fields.{Fields}
use Rattle.directory.specs.declared.Attribute.{Attribute}
use Rattle.directory.specs.declared.Attribute.TheVariants.{Number, Reference}
use Rattle.directory.specs.declared.Entry.{Entry}

-- ---- their order: that of the sheet's entry line, said once

-- the type
abbrev pub type_at : ℕ
type_at = 0

-- the form
abbrev pub form_at : ℕ
form_at = 1

-- the structure
abbrev pub structure_at : ℕ
structure_at = 2

-- the line font
abbrev pub font_at : ℕ
font_at = 3

-- the level
abbrev pub level_at : ℕ
level_at = 4

-- the view
abbrev pub view_at : ℕ
view_at = 5

-- the matrix
abbrev pub matrix_at : ℕ
matrix_at = 6

-- the label display
abbrev pub display_at : ℕ
display_at = 7

-- the status
abbrev pub status_at : ℕ
status_at = 8

-- the weight
abbrev pub weight_at : ℕ
weight_at = 9

-- the colour
abbrev pub colour_at : ℕ
colour_at = 10

-- the subscript
abbrev pub subscript_at : ℕ
subscript_at = 11

-- how many there are
abbrev pub field_count : ℕ
field_count = 12

-- 0
abbrev pub nought : Signed
nought = signed false 0

-- the numbers in order, and back
abbrev pub in_order : Fields → List Signed
in_order x =
    x.entity ∷ x.form ∷ x.structure ∷ x.font ∷ x.level ∷ x.view
    ∷ x.matrix ∷ x.display ∷ x.status ∷ x.weight ∷ x.colour ∷ x.subscript ∷ []

-- and back
abbrev pub fields_of : List Signed → Fields
fields_of ns = record {
  entity = get_or ns type_at nought;
  form = get_or ns form_at nought;
  structure = get_or ns structure_at nought;
  font = get_or ns font_at nought;
  level = get_or ns level_at nought;
  view = get_or ns view_at nought;
  matrix = get_or ns matrix_at nought;
  display = get_or ns display_at nought;
  status = get_or ns status_at nought;
  weight = get_or ns weight_at nought;
  colour = get_or ns colour_at nought;
  subscript = get_or ns subscript_at nought;
}

-- ---- what they mean

-- as the code has it
abbrev pub named : ℕ → DirectoryNumber
named n = record { 0 = n }

-- a number or, negated, a reference
abbrev pub attribute_of : Signed → Attribute
attribute_of x = cond x.neg (Reference (named x.size)) (Number x.size)

-- the paper's number for each case
abbrev pub number_of : Attribute → Signed
number_of (Number n) = signed false n
number_of (Reference d) = signed true d.0

-- the directory record of an entry's numbers
unfoldable pub entry_of : Fields → Entry
entry_of x = record {
  entity = x.entity.size;
  form = x.form.size;
  structure = named x.structure.size;
  font = attribute_of x.font;
  level = attribute_of x.level;
  view = named x.view.size;
  matrix = named x.matrix.size;
  display = named x.display.size;
  status = x.status.size;
  weight = x.weight.size;
  colour = attribute_of x.colour;
  subscript = x.subscript.size;
}
