-- The code's form: the rules as the code asks them: a fault or none, and the references of an entry one by one.
use Rattle.std.specs.Prelude.{Bool, true, cond, ◌&&◌, List, [], ◌∷◌, ℕ, get_or, drop, eqb}
use Rattle.std.specs.Prelude.{Option, Some, None, Result, Ok, Err, ⊤}
use Rattle.columns.specs.declared.Fault.{Fault}
use Rattle.columns.specs.declared.Fault.TheVariants.{Directory, Macro}
use Rattle.columns.specs.declared.DirectoryNumber.{DirectoryNumber}
use Rattle.columns.specs.Refusal.{Outcome, accepted, refused}
use Rattle.references.specs.References.{any, entry124, entry314, class_at, fits}
use Rattle.directory.specs.declared.Fields.{Fields}
use Rattle.directory.specs.declared.Attribute.{Attribute}
use Rattle.directory.specs.declared.Attribute.TheVariants.{Number, Reference}
use Rattle.directory.specs.declared.Entry.{Entry}
use Rattle.directory.specs.declared.Wanted.{Wanted}
use Rattle.directory.specs.Rules.{ranges_ok}

-- ---- 9 and 13

-- the outcome at a place
abbrev pub outcome_of : Result ⊤ Fault → ℕ → Outcome (Unit {0})
outcome_of (Ok done) place = accepted tt
outcome_of (Err fault) place = refused fault place

-- 9, then 13
unfoldable pub rule_of : Fields → Result ⊤ Fault
rule_of x = cond (ranges_ok x) (cond (eqb x.entity.size 306) (Err Macro) (Ok tt)) (Err Directory)

-- ---- 10: each of the references, asked or not

-- the number that it names and the class that it wants
abbrev pub asking : DirectoryNumber → ℕ → Option Wanted
asking number want = Some (record { number = number; want = want })

-- a reference of 0 asks nothing
abbrev pub of_number : DirectoryNumber → ℕ → Option Wanted
of_number d want = cond (eqb d.0 0) None (asking d want)

-- a number asks nothing
abbrev pub of_attribute : Attribute → ℕ → Option Wanted
of_attribute (Number n) want = None
of_attribute (Reference d) want = asking d want

-- how many an entry may have
abbrev pub reference_count : ℕ
reference_count = 7

-- the seven, in the order of references
abbrev pub wants : Entry → List (Option Wanted)
wants e =
    of_number e.structure any ∷ of_attribute e.font any ∷ of_attribute e.level any ∷ of_number e.view any
    ∷ of_number e.matrix entry124 ∷ of_number e.display any ∷ of_attribute e.colour entry314 ∷ []

-- one of them
unfoldable pub wanted_of : Entry → ℕ → Option Wanted
wanted_of e j = get_or (wants e) j None

-- it asks nothing, or what it names is there and of the class wanted
abbrev pub asks_ok : List ℕ → Option Wanted → Bool
asks_ok types None = true
asks_ok types (Some w) = fits w.want (class_at types w.number.0)

-- all of them
abbrev pub all_ask_ok : List ℕ → List (Option Wanted) → Bool
all_ask_ok types [] = true
all_ask_ok types (w ∷ ws) = asks_ok types w && all_ask_ok types ws

-- from reference j on
unfoldable pub rest_fit : List ℕ → Entry → ℕ → Bool
rest_fit types e j = all_ask_ok types (drop j (wants e))
