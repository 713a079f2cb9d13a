-- Worked examples: cases a to k of document 01. What stands on the left, read as one value, has the spelling on the right, or gives that
-- refusal.
use Rattle.std.specs.Prelude.{◌≡◌, refl, cond, List, [], ◌∷◌, map, ℕ, ◌+◌, length, drop, eqb}
use Prim.Native.String.{String}
use Rattle.columns.specs.Refusal.{number}
use Rattle.columns.specs.declared.Fault.TheVariants.{Spelling, Limit}
use Rattle.columns.specs.Decimal.{last_digits, dec}
use Rattle.columns.specs.Quoted.{codes}
use Rattle.values.specs.declared.Number.{Number}
use Rattle.values.specs.declared.Number.TheVariants.{Whole, Real, Beyond, Bad}
use Rattle.values.specs.declared.Head.{Head}
use Rattle.values.specs.declared.Head.TheVariants.{Count, Plain}
use Rattle.values.specs.Number.{number_of, power_at, power}
use Rattle.values.specs.Head.{head_of}
use Rattle.values.specs.Value.{whole, real, text, spelled}

-- a spelling, or the number of a refusal
pub data Answer : Type 0 where
  is : List ℕ → Answer
  gives : ℕ → Answer

-- a number's spelling, or its refusal
abbrev pub of : Number → Answer
of (Whole neg size) = is (spelled (whole neg size))
of (Real neg m eneg e double) = is (spelled (real neg m eneg e double))
of Beyond = gives (number Limit)
of Bad = gives (number Spelling)

-- all of l is one value
abbrev pub by : List ℕ → Head → Answer
by l (Count count len) = cond (eqb (len + count) (length l)) (is (spelled (text (drop len l)))) (gives (number Spelling))
by l (Plain k) = cond (eqb k.len (length l)) (of k.number) (gives (number Spelling))

-- a text, read as one value
abbrev pub answer : String → Answer
answer s = by (codes s) (head_of (codes s))

-- the cases, in the paper's order
abbrev pub table : List (String × Answer)
table =
    ("1.50", is (codes "15.E-1"))
    ∷ ("+007", is (codes "7"))
    ∷ ("-0.", is (codes "0."))
    ∷ ("1D0", is (codes "1.D0"))
    ∷ (".5E3", is (codes "5.E2"))
    ∷ ("100.", is (codes "1.E2"))
    ∷ ("2147483647", is (codes "2147483647"))
    ∷ ("2147483648", gives 7)
    ∷ ("0H", gives 6)
    ∷ ("2H;,", is (codes "2H;,"))
    ∷ ("99999999999999999.", is (codes "99999999999999999."))
    ∷ ("999999999999999999.", gives 7)
    ∷ ("1.E400", is (codes "1.E400"))
    ∷ ("10.E400", gives 7)
    ∷ []

-- each case is as the paper says
pub cases : map (λ (e : String × Answer). answer e.0) table ≡ map (λ (e : String × Answer). e.1) table
unfolding head_of number_of power_at power spelled dec last_digits
cases = refl
