-- Only a string has characters.
use borrow.Author.Rules.{rules}
use Rattle.print.proofs.Texts.{lined}
use Rattle.print.proofs.lines.put_chars.Goals as goal

pub enum_told-1 : goal.enum_told-1
enum_told-1 c = search (rules, lined)

pub enum_told-in-Whole : goal.enum_told-in-Whole
enum_told-in-Whole c = search (rules, lined)

pub enum_told-in-Real : goal.enum_told-in-Real
enum_told-in-Real c = search (rules, lined)

pub enum_known-v : goal.enum_known-v
enum_known-v c = search (rules, lined)

pub put_text-requires : goal.put_text-requires
put_text-requires c = search (rules, lined)

pub returns-in-Default : goal.returns-in-Default
returns-in-Default c = search (rules, lined)

pub returns-in-Whole : goal.returns-in-Whole
returns-in-Whole c = search (rules, lined)

pub returns-in-Real : goal.returns-in-Real
returns-in-Real c = search (rules, lined)

pub shape_of-out : goal.shape_of-out
shape_of-out c = search (rules, lined)

pub returns-in-Text : goal.returns-in-Text
returns-in-Text c = search (rules, lined)
