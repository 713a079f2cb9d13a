-- The code's form: how the code goes through an entity's values: a value that was read and where it goes on behind it.
use Rattle.std.specs.Prelude.{List, ℕ, Ok, Err}
use Rattle.values.specs.declared.Value.TheVariants.{Default}
use Rattle.values.specs.Value.{Item}
use Rattle.records.specs.Record.{Got}
use Rattle.layouts.specs.Entities.{Entity}
use Rattle.read_entities.specs.declared.Taken.{Taken}

-- a refused value stands for a default
abbrev pub taken_of : Got → Taken
taken_of (Ok r) = record { value = r.value; next = r.next }
taken_of (Err r) = record { value = Default; next = r.at }

-- an entity as the layouts see it
abbrev pub entity_with : ℕ → ℕ → List Item → Entity
entity_with typ form vs = record { typ = typ; form = form; values = vs }
