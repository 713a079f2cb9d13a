-- The code's form: the slot that is lent. No entry has it, so it is seen where a slot stays.
use Rattle.std.specs.Prelude.{false, replicate}
use Rattle.columns.specs.Format.{field_columns}
use Rattle.directory.specs.declared.Attribute.TheVariants.{Number}
use Rattle.directory.specs.Fields.{named}
use Rattle.directory.specs.Lines.{parameter_line}
use Rattle.desk.specs.declared.Record.{Record}

-- nines in all its fields, and a label of nines (57)
abbrev pub nines : Record
nines = record {
  known = false;
  number = named 9;
  entry = record {
    entity = 9;
    form = 9;
    structure = named 9;
    font = Number 9;
    level = Number 9;
    view = named 9;
    matrix = named 9;
    display = named 9;
    status = 9;
    weight = 9;
    colour = Number 9;
    subscript = 9;
  };
  label = replicate field_columns 57;
  pointer = parameter_line 9;
  lines = 9;
}
