-- A start text to the left of its 72 columns, without the blanks at their end, is that text. Assumes nothing.
use mathlib.Core.Path.{◌≡◌, refl, ap, ◌∙◌}
use mathlib.Core.Bool.{true, false, not, ◌&&◌}
use mathlib.Core.List.{List, [], ◌∷◌, ◌++◌, map}
use Prim.Native.Nat.{ℕ, zero, suc, ◌+◌, ◌-◌, ◌≤◌, ◌<◌}
use native.Mathlib.Nat.{add-zero}
use native.Mathlib.Omega.{arith}
use lib.ListN.{length, get_or, replicate}
use lib.Dec.{leb, eqb}
use borrow.Author.Tests.{leb-true, not-true}
use Rattle.columns.specs.Columns.{printable}
use Rattle.columns.specs.First.{up_from}
use Rattle.columns.specs.Decimal.{to_left}
use Rattle.columns.specs.Trim.{trim_onto, trim_end}
use Rattle.columns.proofs.Tests.{both}
use Rattle.columns.proofs.Decimals.{length_left, print_left}
use Rattle.cards.specs.Written.{Body, Bodies, none as no-bodies, one as a_Body}
use Rattle.sheets.specs.Sheet.{is_start}
use Rattle.sheets.specs.WellFormed.{Each, none, one}
use Rattle.model.specs.Fit.{Start}
use Rattle.model.specs.Read.{is_blank}

-- ---- a start text

record Parts (t : List ℕ) : Type 0 where
  pub short : length t ≤ 72
  pub last : eqb (get_or t (length t - 1) 0) 32 ≡ false
  pub good : printable t ≡ true

parts : (t : List ℕ) → Start t → Parts t
unfolding is_start
parts t h =
    let a = both (leb (length t) 72) (not (eqb (get_or t (length t - 1) 0) 32) && printable t) h in
    let b = both (not (eqb (get_or t (length t - 1) 0) 32)) (printable t) a.1 in
    record { short = leb-true (length t) 72 a.0; last = not-true (eqb (get_or t (length t - 1) 0) 32) b.0; good = b.1 }

-- its line
start_body : (t : List ℕ) → Start t → Body (to_left 72 t)
start_body t h =
    let p = parts t h in
    record { wide = length_left 72 t p.short; good = print_left 72 t p.good }

pub start_bodies : {ts : List (List ℕ)} → Each Start ts → Bodies (map (to_left 72) ts)
start_bodies none = no-bodies
start_bodies (one {x} {xs} p ps) = a_Body (start_body x p) (start_bodies ps)

-- ---- trimming

trim-blanks : (k : ℕ) → trim_end is_blank (replicate k 32) ≡ []
trim-blanks zero = refl
trim-blanks (suc k) = ap (trim_onto is_blank 32) (trim-blanks k)

trim_left : (t : List ℕ) (k : ℕ) → trim_end is_blank (t ++ replicate k 32) ≡ trim_end is_blank t
trim_left [] k = trim-blanks k
trim_left (x ∷ t) k = ap (trim_onto is_blank x) (trim_left t k)

trim_same : (t : List ℕ) → eqb (get_or t (length t - 1) 0) 32 ≡ false → trim_end is_blank t ≡ t
trim_same [] h = refl
trim_same (x ∷ []) h = rw h
trim_same (x ∷ y ∷ t) h = ap (trim_onto is_blank x) (trim_same (y ∷ t) (last h))
  where
    last : eqb (get_or (x ∷ y ∷ t) (suc (suc (length t)) - 1) 0) 32 ≡ false → eqb (get_or (y ∷ t) (suc (length t) - 1) 0) 32 ≡ false
    last p =
        let a : suc (suc (length t)) - 1 ≡ suc (length t) = omega arith in
        let b : suc (length t) - 1 ≡ length t = omega arith in
        rw b (rw a at p)

-- a start text is read back
start_back : (t : List ℕ) → Start t → trim_end is_blank (to_left 72 t) ≡ t
unfolding to_left
start_back t h = trim_left t (72 - length t) ∙ trim_same t (parts t h).last

-- each of several
pub starts_each : {ts : List (List ℕ)} → Each Start ts → (j : ℕ) → j < length ts → trim_end is_blank (get_or (map (to_left 72) ts) j []) ≡ get_or ts j []
starts_each none j h = absurd (omega arith)
starts_each (one {x} {xs} p ps) zero h = start_back x p
starts_each (one {x} {xs} p ps) (suc j) h = starts_each ps j (omega arith)

-- ---- one after the other

-- what is made of the numbers from i on is what stands there
pub map-up : (f : ℕ → List ℕ) (xs : List (List ℕ)) (i : ℕ) → ((j : ℕ) → j < length xs → f (i + j) ≡ get_or xs j []) → map f (up_from i (length xs)) ≡ xs
unfolding up_from
map-up f [] i h = refl
map-up f (x ∷ xs) i h = rw (first, map-up f xs (i + 1) (λ j l. next j (h (suc j) (omega arith))))
  where
    first : f i ≡ x
    first = rw add-zero at (h 0 (omega arith))

    next : (j : ℕ) → f (i + suc j) ≡ get_or xs j [] → f (i + 1 + j) ≡ get_or xs j []
    next j e =
        let k : i + 1 + j ≡ i + suc j = omega arith in
        rw k e
