-- The code's form: an entity of a sheet value by value: the layout's state, and whether all marks so far were right.
use Rattle.std.specs.Prelude.{Bool, cond, ◌&&◌, List, [], ◌∷◌, ℕ, Option, Ok}
use Rattle.columns.specs.declared.Fault.TheVariants.{Mark}
use Rattle.columns.specs.Refusal.{demand, ◌then◌}
use Rattle.values.specs.Value.{Item}
use Rattle.layouts.specs.declared.LayoutState.{LayoutState}
use Rattle.layouts.specs.Verdict.{Verdict}
use Rattle.layouts.specs.Entities.{fault}
use Rattle.layouts.specs.Walk.{feed, mark, ended}
use Rattle.model.specs.Write.{equal}
use Rattle.write_entities.specs.declared.Judged.{Judged}
use Rattle.write_entities.specs.declared.Values.{Values}
use Rattle.write_lines.specs.Lines.{pass_of, SheetPass}

-- whether a mark is right too
abbrev pub right_too : Bool → Bool → Option LayoutState → Bool
right_too right reference g = right && equal reference (mark g)

-- a state, and whether all marks were right
abbrev pub judged_so : Option LayoutState → Bool → Judged
judged_so g right = record { state = g; right = right }

-- the same behind values, with the place behind them and how many they are
abbrev pub values_of : Option LayoutState → Bool → ℕ → ℕ → Values
values_of g right next lines = record { state = g; right = right; next = next; lines = lines }

-- behind the last value
unfoldable pub judged : List ℕ → Option LayoutState → Bool → List (Bool × Item) → Judged
judged types g right [] = judged_so g right
judged types g right (v ∷ vs) = judged types (feed types g v.1) (right_too right v.0 g) vs

-- the verdict, where the list knows the entity
abbrev pub verdict_if : Bool → Option LayoutState → Verdict
verdict_if inside g = cond inside (ended g) (Ok tt)

-- 14, 15 by the verdict, then 18 by the marks; the entry line's own mark comes first
unfoldable pub answer_of : Bool → Bool → Judged → ℕ → SheetPass
answer_of inside marked j place =
    pass_of (fault (verdict_if inside j.state) place then λ _. demand (equal marked inside && j.right) Mark place)
