-- The code's form: a pack of vectors, where a vector stands in it, and how many of them pass.
use Rattle.std.specs.Prelude.{◌≡◌, cond, List, ℕ, ◌+◌, ◌-◌, ◌≤◌, ◌<◌, length, take, drop, leb}
use Rattle.std.specs.Prelude.{Option, Some, None}
use Rattle.columns.specs.Columns.{columns}
use Rattle.columns.specs.Fixed.{field_of}
use Rattle.vectors.specs.declared.Packed.{Packed}
use Rattle.vectors.specs.declared.Results.{Results}
use Rattle.vectors.specs.Passing.{scored}

-- seven numbers of eight digits and an LF
abbrev pub head_bytes : ℕ
head_bytes = 57

-- what is no number counts as 0
abbrev pub or_nought : Option ℕ → ℕ
or_nought (Some n) = n
or_nought None = 0

-- the number in the eight columns from `at` on
unfoldable pub number_at : List ℕ → ℕ → ℕ
number_at p at = or_nought (field_of (columns p at (at + 8)))

abbrev pub vector : ℕ → ℕ → ℕ → ℕ → ℕ → ℕ → ℕ → ℕ → Packed
vector op list number place name input output end =
    record { op = op; list = list; number = number; place = place; name = name; input = input; output = output; end = end }

-- the vector from `at` on: behind its numbers its name, its input and the expected output
unfoldable pub vector_at : List ℕ → ℕ → Option Packed
vector_at p at =
    let name = at + head_bytes in
    let input = name + number_at p (at + 32) in
    let output = input + number_at p (at + 40) in
    let end = output + number_at p (at + 48) in
    cond (leb end (length p))
    (Some (vector (number_at p at) (number_at p (at + 8)) (number_at p (at + 16)) (number_at p (at + 24)) name input output end))
    None

-- it stands behind `at`, its parts in order, inside a pack of n bytes
abbrev pub Lies : ℕ → ℕ → Option Packed → Type 0
Lies at n None = Unit {0}
Lies at n (Some v) =
    (at < v.name) × (v.name ≤ v.input) × (v.input ≤ v.output) × (v.output ≤ v.end) × (v.end ≤ n)

-- tried, passed
abbrev pub tally : ℕ → ℕ → Results
tally tried passed = record { tried = tried; passed = passed }

-- a part of it
abbrev pub part : List ℕ → ℕ → ℕ → List ℕ
part p from to = take (to - from) (drop from p)

-- what comes of the vectors from `at` on, where so many were tried and passed before; a broken one ends it
pub data Tried (p : List ℕ) (room : ℕ) : ℕ → ℕ → ℕ → Results → Type 0 where
  over : {at n k : ℕ} → length p ≤ at → Tried p room at n k (tally n k)
  broken : {at n k : ℕ} → at < length p → vector_at p at ≡ None → Tried p room at n k (tally n k)
  one : {at n k : ℕ} {v : Packed} {r : Results} → at < length p → vector_at p at ≡ Some v
      → Tried p room v.end (n + 1)
      (k + scored v.op v.list v.number v.place (part p v.input v.output) (part p v.output v.end) room) r
      → Tried p room at n k r
