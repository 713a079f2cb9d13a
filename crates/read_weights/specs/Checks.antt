-- The code's form: the answers of the last pass over one entity and of all checks of a file.
use Rattle.std.specs.Prelude.{List, [], ℕ, ◌+◌, ◌*◌}
use Rattle.columns.specs.Columns.{text_of}
use Rattle.columns.specs.Refusal.{◌then◌}
use Rattle.columns.specs.Format.{line_bytes, parameter_columns}
use Rattle.cards.specs.declared.Counts.{Counts}
use Rattle.cards.specs.Cards.{parameter_line}
use Rattle.records.specs.Record.{values_at}
use Rattle.model.specs.Model.{Carried}
use Rattle.model.specs.Read.{GlobalRead, global_read, Listed, first_entry, parameters_of, carried, entity_in, before, read_model}
use Rattle.read_passes.specs.Passes.{FilePass, BeforeAnswer, pass_of, before_answer}
use Rattle.read_passes.specs.Listed.{entry_of, all_types}
use Rattle.read_entities.specs.Answers.{EntityAnswer, entity_pass_of}
use Rattle.read_entities.specs.Marks.{carried_in}

-- G as the last pass sees it: its two delimiters; its fields have no say
abbrev pub delimited : ℕ → ℕ → GlobalRead
delimited p d = global_read p d []

-- what is said of the entity of this type and form whose record stands in so many P lines from P line `from` on
unfoldable pub record_answer : ℕ → List ℕ → Counts → ℕ → ℕ → ℕ → ℕ → ℕ → ℕ → EntityAnswer
record_answer list f c p d typ form from lines =
    entity_pass_of list (all_types f c) typ form
    (values_at parameter_columns p d (text_of f (line_bytes * parameter_line c from) parameter_columns lines) 0)

-- the last pass at entity i
unfoldable pub entity_at : ℕ → List ℕ → Counts → ℕ → ℕ → ℕ → FilePass
entity_at list f c p d i = pass_of (entity_in list f c (delimited p d) (all_types f c) (first_entry c + 2 * i) (entry_of f c i))

-- what an entry carries: the values that stand in its record
abbrev pub carried_of : List ℕ → Counts → ℕ → ℕ → Listed → Carried
carried_of f c p d e = carried e (carried_in (values_at parameter_columns p d (parameters_of f c e) 0))

-- all checks: the refusal of reading under this list, or what was told before the last pass
unfoldable pub check_of : ℕ → List ℕ → BeforeAnswer
check_of list f = before_answer (read_model list f then λ _. before f)
