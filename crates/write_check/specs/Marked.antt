-- The code's form: a table that stands for the same: of few entries it is as it was, of many nothing is said of what it tells.
use Rattle.std.specs.Prelude.{◌≡◌, ℕ, ◌≤◌, cond, ◌||◌, List, length, ◌==◌}
use Rattle.columns.specs.Letters.{letter_e, letter_u}
use Rattle.write_lines.specs.Classes.{table_size}

-- what a line that begins with this byte adds to the next entry's number: E and U begin an entry
unfoldable pub added_by : ℕ → ℕ
added_by b = cond (b == letter_e || b == letter_u) 2 0

-- a table that tells the same of n entries
pub record Marked (n : ℕ) (table table' : List ℕ) : Type 0 where
  pub size : length table' ≡ table_size
  pub same : n ≤ table_size → table' ≡ table
