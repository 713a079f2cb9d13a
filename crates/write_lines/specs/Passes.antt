-- The code's form: the passes over a sheet behind 17, as writing's order has them.
use Rattle.std.specs.Prelude.{List, ℕ}
use Rattle.sheets.specs.Sheet.{lines_in}
use Rattle.sheets_rows.specs.Rows.{lines_at}
use Rattle.model.specs.Write.{global_rule, row_rules, row_references, row_entity_rules}
use Rattle.write_lines.specs.Lines.{or_else, no_rule, lines_pass, SheetPass}
use Rattle.write_lines.specs.Classes.{sheet_types}

-- ---- from a place of the sheet on, where the line has this number

-- 10
abbrev pub references_from : List ℕ → List ℕ → ℕ → ℕ → SheetPass
references_from types t place at = lines_pass no_rule (row_references types) place (lines_at t at)

-- 14, 15, 18
abbrev pub entities_from : ℕ → List ℕ → List ℕ → ℕ → ℕ → SheetPass
entities_from list types t place at = lines_pass no_rule (row_entity_rules list types) place (lines_at t at)

-- ---- of all lines

-- 8; each entry 9, 13
unfoldable pub rules_pass : List ℕ → SheetPass
rules_pass t = lines_pass global_rule row_rules 1 (lines_in t)

-- all 10
unfoldable pub references_pass : List ℕ → SheetPass
references_pass t = lines_pass no_rule (row_references (sheet_types t)) 1 (lines_in t)

-- each entry 14, 15, 18
unfoldable pub entities_pass : ℕ → List ℕ → SheetPass
entities_pass list t = lines_pass no_rule (row_entity_rules list (sheet_types t)) 1 (lines_in t)

-- the passes behind 17
unfoldable pub sheet_pass : ℕ → List ℕ → SheetPass
sheet_pass list t = or_else (rules_pass t) (or_else (references_pass t) (entities_pass list t))
