-- "Every line in an entry's range names that entry, and every P line lies in the range of the entry it names."
-- P lines are numbered from 1, entries from 0; entry i has the directory number 2 * i + 1.
-- owner k is the directory number that line k names (0: none); entry i asks for the lines from (from i) on, (count i) of them.
use Rattle.std.specs.Prelude.{ℕ, ◌+◌, ◌*◌, ◌/◌, ◌%◌, Bool, cond, ◌&&◌, leb, ltb, eqb}
use Rattle.columns.specs.First.{first_not}
use Rattle.owners.specs.declared.Owned.{Owned}
use Rattle.owners.specs.declared.Owned.TheVariants.{Everyone, Entry, Line}

-- line k names m
unfoldable pub name_is : (ℕ → ℕ) → ℕ → ℕ → Bool
name_is owner m k = eqb (owner k) m

-- entry i's range stays in P, and every line in it names the entry
unfoldable pub entry_owns : (ℕ → ℕ) → (ℕ → ℕ) → (ℕ → ℕ) → ℕ → ℕ → Bool
entry_owns owner from count p i =
    leb 1 (from i) && (leb (from i + count i) (p + 1) && eqb (first_not (name_is owner (2 * i + 1)) (from i) (count i)) (from i + count i))

-- m is an entry's directory number, and k lies in that entry's range
unfoldable pub in_range : (ℕ → ℕ) → (ℕ → ℕ) → ℕ → ℕ → ℕ → Bool
in_range from count n m k = eqb (m % 2) 1 && (ltb (m / 2) n && (leb (from (m / 2)) k && ltb k (from (m / 2) + count (m / 2))))

-- line k lies in the range of the entry that it names
unfoldable pub line_owned : (ℕ → ℕ) → (ℕ → ℕ) → (ℕ → ℕ) → ℕ → ℕ → Bool
line_owned owner from count n k = in_range from count n (owner k) k

-- the first entry that fails, or else the first line
abbrev pub verdict : ℕ → ℕ → ℕ → ℕ → Owned
verdict n p i k = cond (ltb i n) (Entry (record { 0 = 2 * i + 1 })) (cond (leb k p) (Line (record { 0 = k })) Everyone)

-- n entries, p lines: the entries first, then the lines
unfoldable pub owners_of : (ℕ → ℕ) → (ℕ → ℕ) → (ℕ → ℕ) → ℕ → ℕ → Owned
owners_of owner from count n p = verdict n p (first_not (entry_owns owner from count p) 0 n) (first_not (line_owned owner from count n) 1 p)
