-- A number of the D lines as the directory reads it and as ownership does. Assumes nothing.
use mathlib.Core.Path.{◌≡◌, refl}
use mathlib.Core.Bool.{Bool, true, false, cond, not, ◌&&◌}
use Prim.Native.Nat.{ℕ, ◌≤◌}
use native.Mathlib.Omega.{arith}
use lib.Dec.{leb}
use borrow.Author.Tests.{leb-true}
use Rattle.std.specs.Prelude.{Option, Some, None}
use Rattle.columns.specs.declared.Signed.{Signed}
use Rattle.columns.proofs.Tests.{both_right}
use Rattle.directory.specs.Lines.{positive, size_of}
use Rattle.owners.specs.InFile.{size_or0}

-- a positive field is its number, read either way
pub size_same : (f : Option Signed) → positive f ≡ true → size_of f ≡ size_or0 f
unfolding size_or0
size_same (Some x) h = by x.neg h
  where
    by : (b : Bool) → not b && leb 1 x.size ≡ true → x.size ≡ cond b 0 x.size
    by false h = refl
    by true h = let z : ◌≡◌ {A = ℕ} 0 1 = cc in absurd (omega arith)
size_same None h = refl

-- and not 0
pub size_some : (f : Option Signed) → positive f ≡ true → 1 ≤ size_of f
size_some (Some x) h = leb-true 1 x.size (both_right (not x.neg) (leb 1 x.size) h)
size_some None h = let z : ◌≡◌ {A = ℕ} 0 1 = cc in absurd (omega arith)
