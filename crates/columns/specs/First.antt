-- The first of some numbers that fails a test.
use Rattle.std.specs.Prelude.{ℕ, zero, suc, ◌+◌, Bool, cond, List, [], ◌∷◌}

-- the first from i on, of n, at which the test fails; i + n if there is none
unfoldable pub first_not : (ℕ → Bool) → ℕ → ℕ → ℕ
first_not test i zero = i
first_not test i (suc n) = cond (test i) (first_not test (i + 1) n) i

-- the numbers from i on, n of them
unfoldable pub up_from : ℕ → ℕ → List ℕ
up_from i zero = []
up_from i (suc n) = i ∷ up_from (i + 1) n
