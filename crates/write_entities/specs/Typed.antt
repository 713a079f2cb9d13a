-- The code's form: where a place of a layout asks for no type, it is enough whether a value names an entry.
use Rattle.std.specs.Prelude.{Bool, true, false, ℕ, ltb}
use Rattle.references.specs.References.{any, no_entry}
use Rattle.values.specs.declared.Value.{Value}
use Rattle.values.specs.declared.Value.TheVariants.{Default, Whole, Real, Text}
use Rattle.layouts.specs.declared.Kind.{Kind}
use Rattle.layouts.specs.declared.Kind.TheVariants.{R, Given, Weight, S, I, Flag, Count, Outer, Upper1, Upper2, Degree1, Degree2, P, Q}
use Rattle.layouts.specs.declared.Kind.TheVariants.{Bound, Rest}
use Rattle.write_lines.specs.Classes.{some_at}

-- a place that asks what it names for a type
abbrev pub asks_type : Kind → Bool
asks_type R = false
asks_type Given = false
asks_type Weight = false
asks_type S = false
asks_type (I low high) = false
asks_type Flag = false
asks_type Count = false
asks_type Outer = false
asks_type Upper1 = false
asks_type Upper2 = false
asks_type Degree1 = false
asks_type Degree2 = false
asks_type (P want) = ltb any want
asks_type (Q want) = ltb any want
asks_type (Bound want) = ltb any want
asks_type Rest = false

-- what a value names among n entries where no type is asked for
abbrev pub some_named : ℕ → Value → ℕ
some_named n Default = no_entry
some_named n (Whole true m) = no_entry
some_named n (Whole false m) = some_at n m
some_named n (Real neg m eneg e double) = no_entry
some_named n (Text start count) = no_entry
