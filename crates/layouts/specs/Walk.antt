-- The code's form: an entity value by value, a step of the machine for each. What it says at the end is the verdict
-- (proofs/Walk.judged-verdict), and of an entity that fits it has the marks (marks_walked).
use Rattle.std.specs.Prelude.{Bool, false, List, [], ◌∷◌, ℕ, Option, Some, None, Err}
use Rattle.values.specs.declared.Value.{Value}
use Rattle.values.specs.Value.{Item, seen}
use Rattle.layouts.specs.declared.LayoutState.{LayoutState}
use Rattle.columns.specs.declared.Fault.TheVariants.{Layout}
use Rattle.layouts.specs.Verdict.{Verdict}
use Rattle.layouts.specs.Named.{named}
use Rattle.layouts.specs.Entity.{Entity}
use Rattle.layouts.specs.Machine.{kind_at, refers, start, step, end}

-- before its first value
abbrev pub begun : Entity → Option LayoutState
begun e = Some (start e.typ e.form)

-- one value more, as it was read: where a string stands says nothing, so the text isn't needed. Types are those of all entries in
-- directory order
abbrev pub stepped : List ℕ → Option LayoutState → Value → Option LayoutState
stepped types None v = None
stepped types (Some s) v = step s v (named types v)

-- one item more
abbrev pub feed : List ℕ → Option LayoutState → Item → Option LayoutState
feed types g v = stepped types g (seen v)

-- value after value
unfoldable pub run : List ℕ → Option LayoutState → List Item → Option LayoutState
run types g [] = g
run types g (v ∷ vs) = run types (feed types g v) vs

-- after its last value
abbrev pub ended : Option LayoutState → Verdict
ended None = Err Layout
ended (Some s) = end s

-- the verdict from here on
unfoldable pub verdict_from : List ℕ → Option LayoutState → List Item → Verdict
verdict_from types g vs = ended (run types g vs)

-- what is wrong with a reference is kept to the end, so 14 is told before 15
unfoldable pub judged : List ℕ → Entity → Verdict
judged types e = verdict_from types (begun e) e.values

-- the mark of the next value; behind a value that was refused it says nothing
abbrev pub mark : Option LayoutState → Bool
mark None = false
mark (Some s) = refers (kind_at s)

-- those of the values from here on
unfoldable pub marks_from : List ℕ → Option LayoutState → List Item → List Bool
marks_from types g [] = []
marks_from types g (v ∷ vs) = mark g ∷ marks_from types (feed types g v) vs
