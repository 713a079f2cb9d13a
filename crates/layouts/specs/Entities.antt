-- An entity under a list: its verdict, its refusal, the marks of its values.
use Rattle.std.specs.Prelude.{Bool, true, false, cond, ◌&&◌, List, [], ◌∷◌, map, ℕ, Ok, Err}
use Rattle.columns.specs.declared.Fault.TheVariants.{Layout, LayoutReference}
use Rattle.columns.specs.Refusal.{Outcome, accepted, refused}
use Rattle.values.specs.declared.Value.{Value}
use Rattle.values.specs.declared.Value.TheVariants.{Default}
use Rattle.values.specs.Value.{Item, seen}
use Rattle.layouts.specs.Verdict.{Verdict}
pub use Rattle.layouts.specs.Entity.{Entity}
use Rattle.layouts.specs.Known.{known}
use Rattle.layouts.specs.Fits.{Ask, nothing, suits, refers_well, is_reference, asked}

-- ---- the verdict

-- a test holds of what each place asks and the value that stands there: a missing value is a default, and behind the last place
-- `nothing` is asked
unfoldable pub everywhere : (Ask → Value → Bool) → List Ask → List Item → Bool
everywhere test [] [] = true
everywhere test [] (v ∷ vs) = test nothing (seen v) && everywhere test [] vs
everywhere test (a ∷ ps) [] = test a Default && everywhere test ps []
everywhere test (a ∷ ps) (v ∷ vs) = test a (seen v) && everywhere test ps vs

-- 14 is told before 15; types are those of all entries in directory order
unfoldable pub verdict : List ℕ → Entity → Verdict
verdict types e =
    cond (everywhere suits (asked e) e.values)
    (cond (everywhere (refers_well types) (asked e) e.values) (Ok tt) (Err LayoutReference)) (Err Layout)

-- the refusal that a verdict is, 14 or 15
abbrev pub fault : Verdict → ℕ → Outcome (Unit {0})
fault (Ok a) place = accepted tt
fault (Err n) place = refused n place

-- an entity outside the list has its values carried
unfoldable pub entity_check : ℕ → List ℕ → Entity → ℕ → Outcome (Unit {0})
entity_check list types e place = cond (known list e.typ e.form) (fault (verdict types e) place) (accepted tt)

-- ---- marks: true for R, false for V

-- R where the place asks for a reference; a value behind the last place is V
unfoldable pub reference_places : List Ask → List Item → List Bool
reference_places ps [] = []
reference_places [] (v ∷ vs) = false ∷ reference_places [] vs
reference_places (a ∷ ps) (v ∷ vs) = is_reference a ∷ reference_places ps vs

-- a value that is carried is V
abbrev pub carried : Item → Bool
carried v = false

-- of an entity's values, one each; outside the list they are carried, and none is read as a reference
unfoldable pub marks : ℕ → Entity → List Bool
marks list e = cond (known list e.typ e.form) (reference_places (asked e) e.values) (map carried e.values)
