-- The code's form: a line's step is told by what was read of it, and a piece with no LF by its first byte.
use Rattle.std.specs.Prelude.{Bool, ℕ, ◌-◌, ◌≤◌}
use Rattle.values.specs.Writing.{Inside}
use Rattle.values.specs.Value.{is_missing}
use Rattle.records.specs.Global.{first_field, last_field}
use Rattle.sheets.specs.declared.Said.{Said}
use Rattle.sheets.specs.declared.Said.TheVariants.{Start, Global, Entry, Value as Given, Last, Nothing}
use Rattle.sheets.specs.declared.SheetState.{SheetState}
use Rattle.sheets.specs.Order.{start_step, global_step, entry_step, value_step, last_step, none_step, verdict, SheetStep, SheetVerdict}

-- the step of a line, without the line
abbrev pub step_said : SheetState → Said → SheetStep
step_said st Start = start_step st
step_said st (Global n at v) = global_step st n
step_said st (Entry known n x) = entry_step st n
step_said st (Given reference v) = value_step st (is_missing v)
step_said st (Last n) = last_step st n
step_said st (Nothing b) = none_step st b

-- the verdict where a piece stands behind the last line
abbrev pub piece_verdict : SheetState → Bool → SheetVerdict
piece_verdict st b = verdict (none_step st b)

-- what a line of n bytes says stands in it: a text, a value, an entry's label; a Global field has its number
abbrev pub Within : ℕ → Said → Type 0
Within n Start = 2 ≤ n
Within n (Global m at v) = (first_field ≤ m) × (m ≤ last_field) × (at ≤ n) × Inside (n - at) v
Within n (Entry known m x) = 8 ≤ n
Within n (Given reference v) = (2 ≤ n) × Inside (n - 2) v
Within n (Last m) = Unit {0}
Within n (Nothing b) = Unit {0}

-- a line that says no value
abbrev pub NoValue : Said → Type 0
NoValue Start = Unit {0}
NoValue (Global m at v) = Unit {0}
NoValue (Entry known m x) = Unit {0}
NoValue (Given reference v) = ⊥
NoValue (Last m) = Unit {0}
NoValue (Nothing b) = Unit {0}
