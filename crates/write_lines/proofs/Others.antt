-- What is asked of a line that a match does not name, and what a value names that it does not name: nothing.
use mathlib.Core.Path.{◌≡◌, refl}
use mathlib.Core.Bool.{Bool}
use mathlib.Core.List.{List, [], ◌∷◌}
use Prim.Native.Nat.{ℕ}
use denote.Enum.Declared.{tag_of}
use types.Run.{OneOf, miss}
use Rattle.std.proofs.Common.{Ok}
use Rattle.values.specs.declared.Value.{Value}
use Rattle.values.specs.declared.Value.TheVariants.{Default, Whole, Real, Text}
use Rattle.values.specs.Value.{Item}
use Rattle.values.specs.contracts.Value.{the_type as value_type}
use Rattle.layouts.specs.Named.{named}
use Rattle.sheets.specs.declared.Said.{Said}
use Rattle.sheets.specs.declared.Said.TheVariants.{Start, Global, Entry, Value as Given, Last, Nothing}
use Rattle.sheets.specs.contracts.Said.{the_type as said_type}
use Rattle.write_lines.specs.Heads.{said_rule, said_references, said_entity}
use Rattle.write_lines.specs.Classes.{said_class}

-- no G line and no entry line
pub rule_other : (place : ℕ) (x : Said) → OneOf (0 ∷ 3 ∷ 4 ∷ 5 ∷ []) (tag_of said_type x) → Ok tt ≡ said_rule place x
rule_other place Start h = refl
rule_other place (Global n at v) h = absurd (miss (0 ∷ 3 ∷ 4 ∷ 5 ∷ []) 1 tt h)
rule_other place (Entry known n fields) h = absurd (miss (0 ∷ 3 ∷ 4 ∷ 5 ∷ []) 2 tt h)
rule_other place (Given reference v) h = refl
rule_other place (Last n) h = refl
rule_other place (Nothing b) h = refl

-- no entry line
pub class_other : (x : Said) → OneOf (0 ∷ 1 ∷ 3 ∷ 4 ∷ 5 ∷ []) (tag_of said_type x) → 0 ≡ said_class x
class_other Start h = refl
class_other (Global n at v) h = refl
class_other (Entry known n fields) h = absurd (miss (0 ∷ 1 ∷ 3 ∷ 4 ∷ 5 ∷ []) 2 tt h)
class_other (Given reference v) h = refl
class_other (Last n) h = refl
class_other (Nothing b) h = refl

pub references-other : (types : List ℕ) (place : ℕ) (x : Said) → OneOf (0 ∷ 1 ∷ 3 ∷ 4 ∷ 5 ∷ []) (tag_of said_type x) → Ok tt ≡ said_references types place x
references-other types place Start h = refl
references-other types place (Global n at v) h = refl
references-other types place (Entry known n fields) h = absurd (miss (0 ∷ 1 ∷ 3 ∷ 4 ∷ 5 ∷ []) 2 tt h)
references-other types place (Given reference v) h = refl
references-other types place (Last n) h = refl
references-other types place (Nothing b) h = refl

pub entity-other : (list : ℕ) (types : List ℕ) (place : ℕ) (vs : List (Bool × Item)) (x : Said) → OneOf (0 ∷ 1 ∷ 3 ∷ 4 ∷ 5 ∷ []) (tag_of said_type x)
    → Ok tt ≡ said_entity list types place vs x
entity-other list types place vs Start h = refl
entity-other list types place vs (Global n at v) h = refl
entity-other list types place vs (Entry known n fields) h = absurd (miss (0 ∷ 1 ∷ 3 ∷ 4 ∷ 5 ∷ []) 2 tt h)
entity-other list types place vs (Given reference v) h = refl
entity-other list types place vs (Last n) h = refl
entity-other list types place vs (Nothing b) h = refl

-- no whole number
pub names-other : (types : List ℕ) (v : Value) → OneOf (0 ∷ 2 ∷ 3 ∷ []) (tag_of value_type v) → 0 ≡ named types v
unfolding named
names-other types Default h = refl
names-other types (Whole neg size) h = absurd (miss (0 ∷ 2 ∷ 3 ∷ []) 1 tt h)
names-other types (Real neg m eneg e double) h = refl
names-other types (Text start count) h = refl
