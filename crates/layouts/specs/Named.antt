-- What a value names in the file, as a class: whether there is such an entry, and of which type where a rule asks for it.
use Rattle.std.specs.Prelude.{true, false, List, ℕ}
use Rattle.references.specs.References.{no_entry, class_at}
use Rattle.values.specs.declared.Value.{Value}
use Rattle.values.specs.declared.Value.TheVariants.{Default, Whole, Real, Text}

-- types are those of all entries in directory order
unfoldable pub named : List ℕ → Value → ℕ
named types Default = no_entry
named types (Whole true n) = no_entry
named types (Whole false n) = class_at types n
named types (Real neg m eneg e double) = no_entry
named types (Text start count) = no_entry
