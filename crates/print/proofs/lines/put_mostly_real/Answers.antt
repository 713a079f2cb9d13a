-- A real by its fields, any other value as it is.
use borrow.Author.Rules.{rules}
use Rattle.print.proofs.Texts.{line_fields}
use Rattle.print.proofs.lines.put_mostly_real.Goals as goal

pub enum_known-v : goal.enum_known-v
enum_known-v c = search rules

pub put_real_line-requires : goal.put_real_line-requires
put_real_line-requires c = search rules

pub put_value_line-requires : goal.put_value_line-requires
put_value_line-requires c = search rules

pub shape_of-out-in-Real : goal.shape_of-out-in-Real
shape_of-out-in-Real c = search rules

pub returns-in-Real : goal.returns-in-Real
returns-in-Real c = search (rules, line_fields)

pub shape_of-out-in_default : goal.shape_of-out-in_default
shape_of-out-in_default c = search rules

pub returns-in_default : goal.returns-in_default
returns-in_default c = search rules
