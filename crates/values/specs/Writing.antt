-- The code's form: how the code goes about a spelling: a string's characters are copied from where they stand, everything else is spelt.
use Rattle.std.specs.Prelude.{List, [], ℕ, ◌+◌, ◌≤◌, take, drop, Option, Some, None}
use Rattle.values.specs.declared.Value.{Value}
use Rattle.values.specs.declared.Value.TheVariants.{Default, Whole, Real, Text}
use Rattle.values.specs.Value.{default, whole, real, head, spelled}

-- what stands before a string's characters; of any other value all of its spelling
abbrev pub front : Value → List ℕ
front Default = spelled default
front (Whole neg size) = spelled (whole neg size)
front (Real neg m eneg e double) = spelled (real neg m eneg e double)
front (Text start count) = head count

-- a string's characters in the text t
abbrev pub chars : List ℕ → Value → List ℕ
chars t Default = []
chars t (Whole neg size) = []
chars t (Real neg m eneg e double) = []
chars t (Text start count) = take count (drop start t)

-- a string's characters are among the first n of a text
abbrev pub Inside : ℕ → Value → Type 0
Inside n Default = Unit {0}
Inside n (Whole neg size) = Unit {0}
Inside n (Real neg m eneg e double) = Unit {0}
Inside n (Text start count) = start + count ≤ n

-- the same of a text that was read back
abbrev pub Placed : ℕ → Option Value → Type 0
Placed n (Some v) = Inside n v
Placed n None = Unit {0}
