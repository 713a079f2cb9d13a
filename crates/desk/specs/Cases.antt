-- Worked examples: cases a to l of document 01, where a file has them: a to k are values in the text of a record, l is a status field.
use Rattle.std.specs.Prelude.{◌≡◌, refl, cond, List, [], ◌∷◌, ◌++◌, map, ℕ}
use Rattle.std.specs.Prelude.{Option, Some, None}
use Prim.Native.String.{String}
use Rattle.columns.specs.Quoted.{codes}
use Rattle.columns.specs.declared.Fault.TheVariants.{Directory}
use Rattle.columns.specs.Refusal.{number}
use Rattle.columns.specs.Fixed.{digits_of, field_of}
use Rattle.columns.specs.Decimal.{last_digits, dec}
use Rattle.columns.specs.Format.{text_columns}
use Rattle.columns.specs.Letters.{comma, semicolon}
use Rattle.values.specs.Number.{power, power_at, number_of}
use Rattle.values.specs.Head.{head_of}
use Rattle.values.specs.Value.{spelled}
use Rattle.values.specs.Cases.{Answer, is, gives, table as values-table}
use Rattle.records.specs.Record.{Values, values, wrong, next_at, value_at, values_from, values_at}
use Rattle.directory.specs.Rules.{status_ok}

-- what is told of a text: the spelling of each value in it, or a refusal's number
pub data Told : Type 0 where
  reads_as : List (List ℕ) → Told
  refuses : ℕ → Told
  passes : Told

-- a case is a value with its record delimiter, or a status field
pub data Case : Type 0 where
  value : String → Told → Case
  status : String → Told → Case

abbrev answered : Answer → Told
answered (is v) = reads_as (v ∷ [])
answered (gives n) = refuses n

-- a to k are those of `values/Cases`; l is about the status
abbrev table : List Case
table =
    map (λ (e : String × Answer). value e.0 (answered e.1)) values-table
    ++ (status "       1" passes
    ∷ status "00000003" (refuses 9)
    ∷ [])

abbrev told : Values → Told
told (values vs end) = reads_as (map spelled vs)
told (wrong n start at) = refuses (number n)

abbrev status_told : Option ℕ → Told
status_told (Some n) = cond (status_ok n) passes (refuses (number Directory))
status_told None = refuses (number Directory)

abbrev computed : Case → Told
computed (value t x) = told (values_at text_columns comma semicolon (codes t ++ (semicolon ∷ [])) 0)
computed (status t x) = status_told (field_of (codes t))

abbrev expected : Case → Told
expected (value t x) = x
expected (status t x) = x

-- each case is as the paper has it
pub cases : map computed table ≡ map expected table
unfolding digits_of field_of last_digits dec power power_at number_of head_of spelled next_at value_at values_from values_at status_ok
cases = refl
