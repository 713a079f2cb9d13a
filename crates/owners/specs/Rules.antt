-- On the way: the rules of ownership with no order in them, over any names and ranges.
use Rattle.std.specs.Prelude.{ℕ, ◌+◌, ◌*◌, ◌≤◌, ◌<◌, ◌≡◌}

-- line k lies in the range of entry i, of n
pub record In (from count : ℕ → ℕ) (n i k : ℕ) : Type 0 where
  pub is : i < n
  pub after : from i ≤ k
  pub before : k < from i + count i

-- line k names an entry, and lies in its range
pub record Named (owner from count : ℕ → ℕ) (n k : ℕ) : Type 0 where
  pub entry : ℕ
  pub name : owner k ≡ 2 * entry + 1
  pub has : In from count n entry k

-- each range stays in P; every line in an entry's range names that entry; every P line lies in the range of the entry that it names
pub record Owns (owner from count : ℕ → ℕ) (n p : ℕ) : Type 0 where
  pub starts : (i : ℕ) → i < n → 1 ≤ from i
  pub stays : (i : ℕ) → i < n → from i + count i ≤ p + 1
  pub names : (i k : ℕ) → In from count n i k → owner k ≡ 2 * i + 1
  pub lines : (k : ℕ) → 1 ≤ k → k ≤ p → Named owner from count n k
