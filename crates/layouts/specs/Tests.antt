-- What is told of a value by itself.
use Rattle.std.specs.Prelude.{Bool, true, false, not, ◌&&◌, ℕ, eqb, leb, ltb}
use Rattle.values.specs.declared.Value.{Value}
use Rattle.values.specs.declared.Value.TheVariants.{Default, Whole, Real, Text}

-- a number: a real, or an integer, which counts as that whole number
abbrev pub numeric : Value → Bool
numeric Default = false
numeric (Whole neg n) = true
numeric (Real neg m eneg e double) = true
numeric (Text start count) = false

-- a number above zero
abbrev pub above : Value → Bool
above Default = false
above (Whole neg n) = not neg && ltb 0 n
above (Real neg m eneg e double) = not neg && ltb 0 m
above (Text start count) = false

-- a string
abbrev pub text : Value → Bool
text Default = false
text (Whole neg n) = false
text (Real neg m eneg e double) = false
text (Text start count) = true

-- an integer from low to high; a default is 0, where it need not be given
abbrev pub within : Bool → ℕ → ℕ → Value → Bool
within given low high Default = not given && eqb low 0
within given low high (Whole neg n) = not neg && (leb low n && leb n high)
within given low high (Real neg m eneg e double) = false
within given low high (Text start count) = false

-- the number that it counts for
abbrev pub size : Value → ℕ
size Default = 0
size (Whole neg n) = n
size (Real neg m eneg e double) = 0
size (Text start count) = 0

-- an integer
abbrev pub integer : Value → Bool
integer Default = false
integer (Whole neg n) = true
integer (Real neg m eneg e double) = false
integer (Text start count) = false
