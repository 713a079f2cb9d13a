-- The lines of a text of bytes that a line may hold: each has its columns, and such bytes. Assumes nothing.
use mathlib.Core.Path.{◌≡◌}
use mathlib.Core.Bool.{true}
use mathlib.Core.List.{List, [], map}
use Prim.Native.Nat.{ℕ, zero, suc, ◌*◌, ◌≤◌, ◌<◌}
use native.Mathlib.Omega.{arith}
use lib.ListN.{length, get_or, take, drop}
use Rattle.columns.specs.Columns.{printable}
use Rattle.columns.proofs.Looks.{print_take, print_drop}
use Rattle.columns.proofs.Decimals.{print_left}
use Rattle.records.specs.Flow.{line_count, cut, in_lines}
use Rattle.records.proofs.Lines.{lines_hold, length-lines, line_long}
use Rattle.cards.specs.Written.{All, none, one}

-- w columns of bytes that a line may hold
pub record Wide (w : ℕ) (x : List ℕ) : Type 0 where
  pub wide : length x ≡ w
  pub good : printable x ≡ true

cut_wide : (w n : ℕ) (t : List ℕ) → printable t ≡ true → All (Wide w) (cut w n t)
unfolding cut
cut_wide w zero t h = none
cut_wide w (suc n) t h =
    one (record { wide = line_long w t; good = print_left w (take w t) (print_take w t h) }) (cut_wide w n (drop w t) (print_drop w t h))

-- all its lines
pub lines_wide : (w : ℕ) (t : List ℕ) → printable t ≡ true → All (Wide w) (in_lines w t)
unfolding in_lines
lines_wide w t h = cut_wide w (line_count w (length t)) t h

-- a text that isn't empty takes a line at least
pub lines_some : (w : ℕ) (t : List ℕ) → 1 ≤ w → 1 ≤ length t → 1 ≤ length (in_lines w t)
lines_some w t h k = rw (length-lines w t) (some (line_count w (length t)) (lines_hold w (length t) h))
  where
    some : (n : ℕ) → length t ≤ n * w → 1 ≤ n
    some zero l = absurd (omega arith)
    some (suc n) l = omega arith

-- line j has its columns, whatever its bytes
cut_long : (w n : ℕ) (t : List ℕ) (j : ℕ) → j < n → length (get_or (cut w n t) j []) ≡ w
unfolding cut
cut_long w zero t j h = absurd (omega arith)
cut_long w (suc n) t zero h = line_long w t
cut_long w (suc n) t (suc j) h = cut_long w n (drop w t) j (omega arith)

pub line_wide : (w : ℕ) (t : List ℕ) (j : ℕ) → j < length (in_lines w t) → length (get_or (in_lines w t) j []) ≡ w
unfolding in_lines
line_wide w t j h = cut_long w (line_count w (length t)) t j (omega (arith, length-lines w t))

-- what holds of all lines of a list holds of all that is made of them
pub all_map : {P Q : List ℕ → Type 0} (f : List ℕ → List ℕ) → ((x : List ℕ) → P x → Q (f x)) → {xs : List (List ℕ)} → All P xs → All Q (map f xs)
all_map f h none = none
all_map f h (one {x} {xs} p ps) = one (h x p) (all_map f h ps)
