-- Tests taken apart: a choice by its two cases, two tests at once by each.
use mathlib.Core.Path.{◌≡◌, refl}
use mathlib.Core.Bool.{Bool, true, false, cond, ◌&&◌}
use Prim.Native.Nat.{ℕ, ◌≤◌}
use native.Mathlib.Omega.{arith}
use lib.Dec.{leb}
use borrow.Author.Tests.{leb-true}

-- what holds of both cases holds of the choice
pub cond_cases : {A : Type 0} (P : A → Type 0) (b : Bool) (x y : A) → (b ≡ true → P x) → (b ≡ false → P y) → P (cond b x y)
cond_cases P true x y p q = p refl
cond_cases P false x y p q = q refl

pub cond_true : {A : Type 0} {b : Bool} (x y : A) → b ≡ true → cond b x y ≡ x
cond_true x y e = rw e

-- the same either way
pub cond_same : {A : Type 0} (b : Bool) (x : A) → cond b x x ≡ x
cond_same true x = refl
cond_same false x = refl

-- true is not false
pub true_false : {b : Bool} → b ≡ true → b ≡ false → ⊥
true_false t f = let z : ◌≡◌ {A = ℕ} 0 1 = cc in omega arith

-- both tests hold where they hold together
pub both : (a b : Bool) → a && b ≡ true → (a ≡ true) × (b ≡ true)
both true b e = (refl, e)
both false b e = let z : ◌≡◌ {A = ℕ} 0 1 = cc in absurd (omega arith)

pub both_left : (a b : Bool) → a && b ≡ true → a ≡ true
both_left a b e = (both a b e).0

pub both_right : (a b : Bool) → a && b ≡ true → b ≡ true
both_right a b e = (both a b e).1

pub both_true : {a b : Bool} → a ≡ true → b ≡ true → a && b ≡ true
both_true e h = rw (e, h)

pub and-false : (a : Bool) → a && false ≡ false
and-false true = refl
and-false false = refl

pub and_true : (a : Bool) → a && true ≡ a
and_true true = refl
and_true false = refl

pub and_assoc : (a b c : Bool) → (a && b) && c ≡ a && (b && c)
and_assoc true b c = refl
and_assoc false b c = refl

pub digit_bounds : (b : ℕ) → leb 48 b && leb b 57 ≡ true → (48 ≤ b) × (b ≤ 57)
digit_bounds b e = (leb-true 48 b (both_left (leb 48 b) (leb b 57) e), leb-true b 57 (both_right (leb 48 b) (leb b 57) e))
