-- The code's form: what printing needs of an entity: its carried values where they stand, and the mark of each.
use Rattle.std.specs.Prelude.{Bool, cond, List, [], ℕ, drop, Option, Some, None}
use Rattle.values.specs.Value.{Item}
use Rattle.records.specs.Record.{Values, values, wrong, trimmed}
use Rattle.layouts.specs.declared.LayoutState.{LayoutState}
use Rattle.layouts.specs.Known.{known}
use Rattle.layouts.specs.Machine.{start}
use Rattle.layouts.specs.Walk.{marks_from}
use Rattle.model.specs.Model.{marked}

-- the values behind the type, without the defaults at the end
abbrev pub carried_in : Values → List Item
carried_in (values vs end) = trimmed (drop 1 vs)
carried_in (wrong fault start at) = []

-- before the first of them; outside the list it stands where nothing is a reference
unfoldable pub marks_begun : ℕ → ℕ → ℕ → Option LayoutState
marks_begun list typ form = cond (known list typ form) (Some (start typ form)) None

-- the values from here on, each with its mark
unfoldable pub marked_from : List ℕ → Option LayoutState → List Item → List (Bool × Item)
marked_from types g vs = marked (marks_from types g vs) vs
