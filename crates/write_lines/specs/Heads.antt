-- The code's form: what a pass reads of a line: G lines and entry lines alone, told by their first byte; and what it asks of them.
use Rattle.std.specs.Prelude.{Bool, false, cond, ◌||◌, List, [], ℕ, get_or, eqb, Ok}
use Rattle.columns.specs.declared.Fault.TheVariants.{Global as GlobalFault}
use Rattle.columns.specs.Refusal.{demand}
use Rattle.columns.specs.Letters.{letter_e, letter_g, letter_u}
use Rattle.values.specs.Value.{Item}
use Rattle.records.specs.Global.{global_fits}
use Rattle.directory.specs.Rules.{entry_rules, reference_rule}
use Rattle.sheets.specs.declared.Said.{Said}
use Rattle.sheets.specs.declared.Said.TheVariants.{Start, Global, Entry, Value as Given, Last, Nothing}
use Rattle.sheets.specs.Sheet.{says_of, row}
use Rattle.model.specs.Write.{row_entity_rules}
use Rattle.write_lines.specs.Lines.{pass_of, SheetPass}

-- E, U or G
unfoldable pub is_head : ℕ → Bool
is_head b = eqb b letter_e || (eqb b letter_u || eqb b letter_g)

-- what a line says that begins so; another says nothing that is asked
unfoldable pub head_of : List ℕ → Said
head_of l = cond (is_head (get_or l 0 0)) (says_of l) (Nothing false)

-- 8 of a G line; 9, 13 of an entry line
abbrev pub said_rule : ℕ → Said → SheetPass
said_rule place Start = Ok tt
said_rule place (Global n at v) = pass_of (demand (global_fits n v) GlobalFault place)
said_rule place (Entry known n x) = pass_of (entry_rules x place)
said_rule place (Given reference v) = Ok tt
said_rule place (Last n) = Ok tt
said_rule place (Nothing b) = Ok tt

-- 10 of an entry line
abbrev pub said_references : List ℕ → ℕ → Said → SheetPass
said_references types place Start = Ok tt
said_references types place (Global n at v) = Ok tt
said_references types place (Entry known n x) = pass_of (reference_rule types x place)
said_references types place (Given reference v) = Ok tt
said_references types place (Last n) = Ok tt
said_references types place (Nothing b) = Ok tt

-- 14, 15, 18 of an entry line with these values
abbrev pub said_entity : ℕ → List ℕ → ℕ → List (Bool × Item) → Said → SheetPass
said_entity list types place vs Start = Ok tt
said_entity list types place vs (Global n at v) = Ok tt
said_entity list types place vs (Entry known n x) = pass_of (row_entity_rules list types place (row known x [] vs))
said_entity list types place vs (Given reference v) = Ok tt
said_entity list types place vs (Last n) = Ok tt
said_entity list types place vs (Nothing b) = Ok tt
