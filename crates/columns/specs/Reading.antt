-- The code's form: what callers of the code lean on besides its answers: how large a number that was read can be, and where a number
-- starts.
use Rattle.std.specs.Prelude.{◌≡◌, List, ℕ, ◌≤◌, ◌<◌, get_or}
use Rattle.std.specs.Prelude.{Option, Some, None}
use Rattle.columns.specs.declared.Signed.{Signed}
use Rattle.columns.specs.Columns.{columns}
use Rattle.columns.specs.Fixed.{field_of, signed_of}
use Rattle.columns.specs.Letters.{space}

-- a number, if it is one, below m
abbrev pub Below : ℕ → Option ℕ → Type 0
Below m (Some n) = n < m
Below m None = Unit {0}

-- the same of its size
abbrev pub SizeBelow : ℕ → Option Signed → Type 0
SizeBelow m (Some x) = x.size < m
SizeBelow m None = Unit {0}

-- r is behind the blanks: from there on the columns say what all say, and they go on with no blank
pub record Behind (s : List ℕ) (at end r : ℕ) : Type 0 where
  pub low : at ≤ r
  pub high : r ≤ end
  pub field : field_of (columns s r end) ≡ field_of (columns s at end)
  pub signed : signed_of (columns s r end) ≡ signed_of (columns s at end)
  pub next : r < end → get_or s r 0 ≡ space → ⊥
