-- The code's form: one walk over an entity's values: what the layout and the sheet see are those up to the last that is no default, so a
-- default is owed until a value is given behind it. Its lines in the sheet are measured on the way.
use Rattle.std.specs.Prelude.{cond, List, [], ◌∷◌, ◌++◌, ℕ, ◌+◌, ◌*◌, ◌≤◌, ◌<◌, length, replicate, Option}
use Rattle.std.specs.Prelude.{Result, Ok, Err}
use Rattle.columns.specs.declared.Fault.{Fault}
use Rattle.columns.specs.Format.{line_bytes, parameter_columns}
use Rattle.values.specs.declared.Value.{Value}
use Rattle.values.specs.Value.{Item, default, spelled, is_missing}
use Rattle.values.specs.Writing.{front}
use Rattle.records.specs.Record.{Values, values, wrong, trimmed}
use Rattle.records.specs.Reading.{Stands}
use Rattle.records.specs.Written.{copied}
use Rattle.layouts.specs.declared.LayoutState.{LayoutState}
use Rattle.layouts.specs.Walk.{stepped, run}
use Rattle.read_entities.specs.declared.Walked.{Walked}

-- the bytes of the value lines of these values: the mark, a tab, the spelling, an LF
unfoldable pub carried_length : List Item → ℕ
carried_length [] = 0
carried_length (v ∷ vs) = length (spelled v) + 3 + carried_length vs

-- the defaults owed stand before values, and before none they are forgotten
abbrev pub owing : ℕ → List Item → List Item
owing owed [] = []
owing owed (v ∷ vs) = replicate owed default ++ (v ∷ vs)

-- what a walk needs: the P lines from base on stand in the file, so do the D lines of n entries from line `first` on, and no delimiter is 0
pub record EntityStands (f : List ℕ) (base lines c d first n : ℕ) : Type 0 where
  pub stands : Stands f base parameter_columns lines
  pub parameter : 0 < c
  pub closing : 0 < d
  pub directory_there : line_bytes * (first + 2 * n) ≤ length f

-- ---- behind a value

abbrev pub state_after : List ℕ → Option LayoutState → ℕ → Value → Option LayoutState
state_after types g owed v = cond (is_missing v) g (stepped types (run types g (replicate owed default)) v)

abbrev pub length_after : ℕ → ℕ → Value → ℕ
length_after size owed v = cond (is_missing v) size (size + 3 * owed + 3 + length (front v) + copied v)

abbrev pub owed_after : ℕ → Value → ℕ
owed_after owed v = cond (is_missing v) (owed + 1) 0

-- ---- behind all

-- the layout and the bytes reached, or the first refusal
abbrev pub EntityWalked : Type 0
EntityWalked = Result Walked Fault

abbrev pub walked_to : Option LayoutState → ℕ → Walked
walked_to state size = record { state = state; length = size }

-- the rest of the walk, so many defaults owed and so many bytes measured
abbrev pub walked_from : List ℕ → Option LayoutState → ℕ → ℕ → Values → EntityWalked
walked_from types g owed size (values vs end) =
    Ok (walked_to (run types g (owing owed (trimmed vs))) (size + carried_length (owing owed (trimmed vs))))
walked_from types g owed size (wrong fault start at) = Err fault

-- no more bytes than m
abbrev pub Light : ℕ → EntityWalked → Type 0
Light m (Ok w) = w.length ≤ m
Light m (Err fault) = Unit {0}
