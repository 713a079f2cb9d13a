-- The code's form: what the last pass says of one entity: the answer of `by_parameters` without what is carried and without the place.
use Rattle.std.specs.Prelude.{Bool, false, cond, not, ◌&&◌, List, ℕ, eqb, get_or, drop, Option, Result, Ok, Err}
use Rattle.columns.specs.declared.Fault.{Fault}
use Rattle.columns.specs.declared.Fault.TheVariants.{FirstValue}
use Rattle.columns.specs.Refusal.{Outcome, accepted, refused, demand, ◌then◌}
use Rattle.values.specs.declared.Value.{Value}
use Rattle.values.specs.declared.Value.TheVariants.{Default, Whole, Real, Text}
use Rattle.values.specs.Value.{default}
use Rattle.records.specs.Record.{Values, values, wrong, trimmed}
use Rattle.layouts.specs.Verdict.{Verdict}
use Rattle.layouts.specs.declared.LayoutState.{LayoutState}
use Rattle.layouts.specs.Entities.{entity_check}
use Rattle.layouts.specs.Walk.{ended}
use Rattle.model.specs.Read.{is_type}
use Rattle.read_entities.specs.declared.Weighed.{Weighed}
use Rattle.read_entities.specs.Taking.{entity_with}
use Rattle.read_entities.specs.Walking.{EntityWalked}

-- nothing is wrong, or the first refusal
abbrev pub EntityAnswer : Type 0
EntityAnswer = Result (Unit {0}) Fault

-- an outcome without its value and its place
abbrev pub entity_answer : {A : Type 0} → Outcome A → EntityAnswer
entity_answer (accepted a) = Ok tt
entity_answer (refused fault place) = Err fault

-- an entity of this type and form, with these values in its record: nothing else of its entry has a say
unfoldable pub entity_pass_of : ℕ → List ℕ → ℕ → ℕ → Values → EntityAnswer
entity_pass_of list types typ form (wrong fault start at) = Err fault
entity_pass_of list types typ form (values vs end) =
    entity_answer
    (demand (is_type typ (get_or vs 0 default)) FirstValue 0
    then λ _. entity_check list types (entity_with typ form (trimmed (drop 1 vs))) 0)

-- ---- as the code goes about it

-- a value as it was read is the integer type
abbrev pub type_read : ℕ → Value → Bool
type_read typ Default = false
type_read typ (Whole neg size) = not neg && eqb size typ
type_read typ (Real neg m eneg e double) = false
type_read typ (Text start count) = false

-- the answer that a verdict is
abbrev pub verdict_answer : Verdict → EntityAnswer
verdict_answer (Ok a) = Ok tt
verdict_answer (Err fault) = Err fault

-- by whether the first value is the type, whether the list knows the entity, and where its layout stands behind its values
abbrev pub pass_answer : Bool → Bool → Option LayoutState → EntityAnswer
pass_answer typed inside g = cond typed (cond inside (verdict_answer (ended g)) (Ok tt)) (Err FirstValue)

-- the same by the walk over its values, with the bytes of their lines
unfoldable pub weighed_of : Bool → Bool → EntityWalked → Weighed
weighed_of typed inside (Ok w) = record { answer = pass_answer typed inside w.state; length = w.length }
weighed_of typed inside (Err fault) = record { answer = Err fault; length = 0 }
